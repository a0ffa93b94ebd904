-- The library of a DLL asks for exactly what the DLL exports.
use Rattle.std.proofs.Common.{arith, ◌≡◌, ℕ, ◌+◌, Bool, true, false, cond, not, List, [], ◌∷◌, ◌++◌, Option, Some, None, map, drop, refl, ap, ◌∙◌, sym, subst, append-nil}
use Rattle.std.specs.Prelude.{All, if◌then◌else◌}
use Rattle.std.specs.List.{filter, flat_map, list_all}
use Rattle.std.proofs.lemmas.List.Folds.{list_all-append}
use Rattle.std.specs.Option.{option_map}
use Rattle.std.proofs.lemmas.List.{map-append}
use Rattle.implib.specs.declared.flavor.Flavor.{Flavor}
use Rattle.implib.specs.declared.flavor.Flavor.TheVariants.{Msvc, Gnu}
use Rattle.implib.specs.declared.machine.MachineType.{MachineType}
use Rattle.implib.specs.declared.machine.MachineType.TheVariants.{I386}
use Rattle.implib.specs.Definition.{DefinitionView, ExportView, empty_export}
use Rattle.implib.specs.Formats.File.{AnImport, meaning_in}
use Rattle.implib.specs.Import.{Alias, Ask, Import, aliases_for, is_empty_text, Name, Ordinal, expected_ask, expected_import}
use Rattle.implib.specs.Members.MemberLists.{has_code, is_weak, kept_of_alias}
use Rattle.implib.specs.Members.MemberSpec.{MemberView, member_of}
use Rattle.implib.specs.Members.Members.{member_specs}
use Rattle.implib.specs.Members.ReadBack.{GnuReadBack, expected_meanings, file_at}
use Rattle.implib.specs.Renaming.{renamed, renamed_export}
use Rattle.implib_dll.specs.Exports.{Exports, NameEntry, Target}
use Rattle.implib_dll.specs.Lookup.{target_at}
use Rattle.implib_dll.specs.Rows.{Row, rows_of}
use Rattle.implib_libraries.proofs.FromDll.Found.{asks_are_found}
use Rattle.implib_libraries.specs.FromDll.Definition.{exports_of, is_data, named_from, named_of, numbered_of, numbered_to}
use Rattle.implib_libraries.specs.FromDll.Laws.{Fits, IsFoundAtOnce, ask_of, asks_of}
use Rattle.implib_rules.proofs.Asked.{asks_as_linked}
use Rattle.implib_rules.specs.Additions.{no_additions}
use Rattle.implib_rules.specs.ExportAs.{AreMadeFor}
use Rattle.implib_rules.specs.Exports.{LackSymbolNames, MembersOfExports, of_exports}
use Rattle.implib_rules.specs.Library.{definition_for}
use Rattle.implib_rules.specs.Linked.{NamingView, word_asked}
use Rattle.implib_rules.specs.Names.{dll_name}
use Rattle.implib_rules.specs.Options.{LibraryOptionsView}
use Rattle.implib_rules.specs.Order.{LibraryReads, ReadsInOrder}
use Rattle.implib_libraries.specs.OfDll.Decorated.{decorated_export, decorated_exports, is_decorated, symbol_for, with_symbols, with_word, word_naming}
use Rattle.implib_libraries.specs.OfDll.Decorations.{DecorationView}
use Rattle.implib_libraries.specs.OfDll.Libraries.{AsksForExports, AsksForWords, DecoratedLibrariesAskForExports, GnuReadsAs, LibrariesAskForExports, ReadsAs, are_different}
use Rattle.implib_libraries.proofs.OfDll.Symbols.{found_decorated, is_whole, made_of}
use Rattle.implib_libraries.proofs.OfDll.Words.{Word, and_false, link, linked_words, nothing_added, nothing_left_out, of_word, serves}

-- ---- the exports of a DLL are of words

abbrev to_word : ExportView → Word
to_word e = record { name = e.name; target = e.alias_target; number = e.ordinal; no_name = e.no_name; is_data = e.is_data }

abbrev AreWords : List ExportView → Type 0
AreWords xs = map of_word (map to_word xs) ≡ xs

words-append : (xs ys : List ExportView) → AreWords xs → AreWords ys → AreWords (xs ++ ys)
words-append xs ys first second = grind (arith, map-append)

-- what is asked for a word
abbrev ask_of_word : Word → Ask
ask_of_word w = if w.no_name then Ordinal w.number else Name (if is_empty_text w.target then w.name else w.target) w.number

-- exports without a word after `==` ask for their words, and serve
pub record AreBare (xs : List ExportView) : Type 0 where
  pub words : AreWords xs
  pub asks : map ask_of_word (map to_word xs) ≡ map ask_of xs
  pub serve : (machine : MachineType) (naming : NamingView) → list_all (serves machine naming) (map to_word xs) ≡ true

bare-nil : AreBare []
bare-nil = record { words = refl; asks = refl; serve = λ machine naming. refl }

bare-append : (xs ys : List ExportView) → AreBare xs → AreBare ys → AreBare (xs ++ ys)
bare-append xs ys first second = grind (arith, words-append, map-append, list_all-append)

named_bare : (text : List ℕ) (position : ℕ) (o : Option Target) → AreBare (named_of text position o)
named_bare text position None = bare-nil
named_bare text position (Some target) = record { words = refl; asks = refl; serve = λ machine naming. refl }

all_named_bare : (targets : List Target) (names : List NameEntry) (position : ℕ) → AreBare (named_from targets names position)
unfolding named_from
all_named_bare targets [] position = bare-nil
all_named_bare targets (n ∷ names) position = grind (arith, all_named_bare targets names (position + 1), bare-append, named_bare)

numbered_bare : (ordinal : ℕ) (o : Option Target) → AreBare (numbered_to ordinal o)
numbered_bare ordinal None = bare-nil
numbered_bare ordinal (Some target) = record { words = refl; asks = refl; serve = λ machine naming. refl }

all_numbered_bare : (rows : List Row) → AreBare (flat_map numbered_of rows)
all_numbered_bare [] = bare-nil
all_numbered_bare (r ∷ rows) = grind (arith, all_numbered_bare rows, bare-append, numbered_bare)

exports_are_bare : (e : Exports) → AreBare (exports_of e)
exports_are_bare e =
    bare-append (named_from e.targets e.names 0) (flat_map numbered_of (rows_of e)) (all_named_bare e.targets e.names 0) (all_numbered_bare (rows_of e))

-- ---- what is linked

renamed_links : (machine : MachineType) (naming : NamingView) (ws : List Word) → map renamed_export (map (link machine naming) ws) ≡ map (link machine naming) ws
renamed_links machine naming [] = refl
renamed_links machine naming (w ∷ ws) = ap (λ xs. link machine naming w ∷ xs) (renamed_links machine naming ws)

public_links : (machine : MachineType) (naming : NamingView) (ws : List Word) → filter (λ x. not x.private) (map (link machine naming) ws) ≡ map (link machine naming) ws
public_links machine naming [] = refl
public_links machine naming (w ∷ ws) = ap (λ xs. link machine naming w ∷ xs) (public_links machine naming ws)

strong_links : (machine : MachineType) (naming : NamingView) (ws : List Word) → filter (λ x. not (is_weak x)) (map (link machine naming) ws) ≡ map (link machine naming) ws
strong_links machine naming [] = refl
strong_links machine naming (w ∷ ws) = ap (λ xs. link machine naming w ∷ xs) (strong_links machine naming ws)

-- ---- what is asked for

word_whole : (machine : MachineType) (naming : NamingView) (word : List ℕ) → naming.kills_at ≡ false → word_asked machine naming word ≡ word
word_whole machine naming word whole = grind (arith, word)

ask_linked : (machine : MachineType) (naming : NamingView) (w : Word) → naming.kills_at ≡ false → expected_ask machine (link machine naming w) ≡ ask_of_word w
ask_linked machine naming w whole = grind (arith, asks_as_linked machine naming (of_word w), word_whole machine naming w.name whole)

-- the imports of a DLL's library
abbrev imports_made : MachineType → NamingView → List ℕ → List Word → List Import
imports_made machine naming dll ws = map (λ w. expected_import machine dll (link machine naming w)) ws

asks_made : (machine : MachineType) (naming : NamingView) (dll : List ℕ) (ws : List Word) → naming.kills_at ≡ false
    → map (λ i. i.ask) (imports_made machine naming dll ws) ≡ map ask_of_word ws
asks_made machine naming dll [] whole = refl
asks_made machine naming dll (w ∷ ws) whole = grind (arith, asks_made machine naming dll ws whole, ask_linked)

dlls_made : (machine : MachineType) (naming : NamingView) (dll : List ℕ) (ws : List Word)
    → map (λ i. i.dll) (imports_made machine naming dll ws) ≡ map (λ i. dll) (imports_made machine naming dll ws)
dlls_made machine naming dll [] = refl
dlls_made machine naming dll (w ∷ ws) = ap (λ ds. dll ∷ ds) (dlls_made machine naming dll ws)

-- ---- what is read

meanings_made : (machine : MachineType) (naming : NamingView) (dll : List ℕ) (ws : List Word)
    → flat_map (expected_meanings machine dll) (map (link machine naming) ws) ≡ map AnImport (imports_made machine naming dll ws)
meanings_made machine naming dll [] = refl
meanings_made machine naming dll (w ∷ ws) = ap (λ ms. AnImport (expected_import machine dll (link machine naming w)) ∷ ms) (meanings_made machine naming dll ws)

map-twice : {X Y Z : Type 0} (g : Y → Z) (f : X → Y) (xs : List X) → map g (map f xs) ≡ map (λ x. g (f x)) xs
map-twice g f [] = refl
map-twice g f (x ∷ xs) = ap (λ l. g (f x) ∷ l) (map-twice g f xs)

imports_of_links : (machine : MachineType) (naming : NamingView) (dll : List ℕ) (ws : List Word)
    → map (expected_import machine dll) (filter (λ x. not (is_weak x)) (filter (λ x. not x.private) (map (link machine naming) ws))) ≡ imports_made machine naming dll ws
imports_of_links machine naming dll ws = grind (arith, public_links, strong_links, map-twice)

-- the aliases of an export
abbrev kept : ExportView → List Alias
kept x = kept_of_alias x (aliases_for x.name x.alias_target)

abbrev the_none : List Alias
the_none = []

none_of : (b : Bool) → cond b (the_none) (drop 1 the_none) ≡ the_none
none_of true = refl
none_of false = refl

none_kept : (machine : MachineType) (naming : NamingView) (ws : List Word) → flat_map kept (map (link machine naming) ws) ≡ []
none_kept machine naming [] = refl
none_kept machine naming (w ∷ ws) = ap (λ l. l ++ flat_map kept (map (link machine naming) ws)) (none_of (has_code (link machine naming w))) ∙ none_kept machine naming ws

no_alias : (machine : MachineType) (naming : NamingView) (ws : List Word)
    → flat_map kept (filter (λ x. not x.private) (map (link machine naming) ws)) ≡ []
no_alias machine naming ws = ap (flat_map kept) (public_links machine naming ws) ∙ none_kept machine naming ws

-- ---- the definition

-- the names of the words of a DLL
names_of_words : (xs : List ExportView) → map (λ w. w.name) (map to_word xs) ≡ map (λ x. x.name) xs
names_of_words [] = refl
names_of_words (x ∷ xs) = ap (λ l. x.name ∷ l) (names_of_words xs)

-- the exports of the definition that is made of words, where nothing is added
exports_made : (options : LibraryOptionsView) (ws : List Word) → options.additions ≡ no_additions → are_different (map (λ w. w.name) ws) ≡ true
    → list_all (serves options.machine options.naming) ws ≡ true
    → (definition_for options (of_exports (map of_word ws)) [] false).exports ≡ map (link options.machine options.naming) ws
exports_made options ws nothing apart all = grind (arith, nothing_added, nothing_left_out, linked_words)

-- a definition of words as they are linked
pub record OfLinks (machine : MachineType) (naming : NamingView) (dll : List ℕ) (ws : List Word) (d : DefinitionView) : Type 0 where
  pub exports : d.exports ≡ map (link machine naming) ws
  pub name : d.import_name ≡ dll

-- under its names to link by it is the same
renamed_same : (machine : MachineType) (naming : NamingView) (dll : List ℕ) (ws : List Word) (d : DefinitionView) → OfLinks machine naming dll ws d → renamed d ≡ d
renamed_same machine naming dll ws d is = grind (arith, renamed_links)

-- ---- what is read of the members

-- for Microsoft's linker
msvc_read : (machine : MachineType) (naming : NamingView) (dll : List ℕ) (ws : List Word) (d : DefinitionView) (members : List MemberView)
    → OfLinks machine naming dll ws d → ReadsInOrder d machine members
    → map (λ m. meaning_in m.bytes) (drop 3 members) ≡ map (λ i. Some (AnImport i)) (imports_made machine naming dll ws)
msvc_read machine naming dll ws d members is reads = grind (arith, imports_of_links, no_alias, append-nil, map-twice)

-- for GNU's linker
gnu_read : (machine : MachineType) (naming : NamingView) (dll : List ℕ) (ws : List Word) (d : DefinitionView) (members all : List MemberView)
    → OfLinks machine naming dll ws d → members ≡ map member_of (member_specs d machine Gnu) → all ≡ map member_of (member_specs (renamed d) machine Gnu)
    → GnuReadBack d machine all → GnuReadsAs members (imports_made machine naming dll ws)
gnu_read machine naming dll ws d members all is made whole reads =
    let same : members ≡ all = made ∙ (ap (λ r. map member_of (member_specs r machine Gnu)) (sym (renamed_same machine naming dll ws d is)) ∙ sym whole) in
    let meanings : reads.meanings ≡ map AnImport (imports_made machine naming dll ws) = grind (arith, renamed_same, public_links, meanings_made) in
    record {
      tail = reads.tail;
      head = reads.head;
      tail_read = ap (λ ms. file_at ms 0) same ∙ reads.tail_read;
      head_read = ap (λ ms. file_at ms 1) same ∙ reads.head_read;
      read = grind (arith, map-twice);
    }

-- no word has a symbol name
lack_symbols : (ws : List Word) → LackSymbolNames (map of_word ws)
lack_symbols [] = refl
lack_symbols (w ∷ ws) = lack_symbols ws

-- ---- the whole

-- what the members are read as, by the flavour
read_as : (flavor : Flavor) (naming : NamingView) (machine : MachineType) (dll : List ℕ) (ws : List Word) (d : DefinitionView) (members : List MemberView)
    → naming.exports_as ≡ false → OfLinks machine naming dll ws d → AreMadeFor naming d machine flavor members → LibraryReads d machine flavor members
    → ReadsAs flavor members (imports_made machine naming dll ws)
read_as Msvc naming machine dll ws d members third is made reads = msvc_read machine naming dll ws d members is reads
read_as Gnu naming machine dll ws d members third is made reads = gnu_read machine naming dll ws d members made.all is made.is made.made.made made.reads

of_words : (e : Exports) (options : LibraryOptionsView) (ws : List Word) (members : List MemberView) → Fits e → AsksForWords options
    → map ask_of_word ws ≡ asks_of e → list_all (serves options.machine options.naming) ws ≡ true → are_different (map (λ w. w.name) ws) ≡ true → MembersOfExports (map of_word ws) options members
    → AsksForExports e options members
of_words e options ws members fits asking ask all apart m =
    let machine = options.machine in
    let naming = options.naming in
    let dll = dll_name options.dll [] false in
    let d = m.definition in
    let links : OfLinks machine naming dll ws d = grind (arith, exports_made) in
    let same = renamed_same machine naming dll ws d links in
    let asks : map (λ i. i.ask) (imports_made machine naming dll ws) ≡ asks_of e = grind (arith, asks_made, ask) in
    record {
      imports = imports_made machine naming dll ws;
      read = read_as options.flavor naming machine dll ws d members asking.no_third_text links
          (subst (λ r. AreMadeFor naming r machine options.flavor members) same m.made_for)
          (subst (λ r. LibraryReads r machine options.flavor members) same (m.library_reads (lack_symbols ws) asking.no_third_text));
      dll = dlls_made machine naming dll ws;
      asks = asks;
      found = subst (All (IsFoundAtOnce e)) (sym asks) (asks_are_found e fits);
    }

-- exports of a DLL, bare or not, that are words which ask for what it exports
of_list : (e : Exports) (options : LibraryOptionsView) (xs : List ExportView) (members : List MemberView) → Fits e → AsksForWords options
    → AreWords xs → map ask_of_word (map to_word xs) ≡ asks_of e → list_all (serves options.machine options.naming) (map to_word xs) ≡ true
    → are_different (map (λ x. x.name) xs) ≡ true → MembersOfExports xs options members → AsksForExports e options members
of_list e options xs members fits asking are ask all apart m = grind (arith, of_words, ask, names_of_words)

pub libraries_ask_for_exports : LibrariesAskForExports
libraries_ask_for_exports e options members fits asking apart m =
    let bare = exports_are_bare e in
    of_list e options (exports_of e) members fits asking bare.words bare.asks (bare.serve options.machine options.naming) apart m

-- ---- with the symbols of a file

-- an export, with the symbol of its name or as it was, asks for the same and serves
record IsDecorated (naming : NamingView) (x d : ExportView) : Type 0 where
  pub word : of_word (to_word d) ≡ d
  pub ask : ask_of_word (to_word d) ≡ ask_of x
  pub serve : serves I386 naming (to_word d) ≡ true

-- the export of a name
abbrev named_one : List ℕ → ℕ → Bool → ExportView
named_one name number is_data = record empty_export { name = name; ordinal = number; is_data = is_data }

stays : (naming : NamingView) (name : List ℕ) (number : ℕ) (is_data : Bool) → IsDecorated naming (named_one name number is_data) (named_one name number is_data)
stays naming name number is_data = record { word = refl; ask = refl; serve = refl }

given : (naming : NamingView) (name symbol : List ℕ) (number : ℕ) (is_data : Bool) → is_decorated name symbol ≡ true
    → IsDecorated naming (named_one name number is_data) (record (named_one name number is_data) { name = word_naming naming symbol; alias_target = name })
given naming name symbol number is_data is = grind (arith, made_of name symbol is, is_whole naming name symbol is, and_false (not (is_empty_text name)))

named_decorated : (naming : NamingView) (decorations : List DecorationView) (names : List NameEntry) (name : List ℕ) (number : ℕ) (is_data : Bool)
    → IsDecorated naming (named_one name number is_data) (decorated_export naming decorations names (named_one name number is_data))
named_decorated naming decorations names name number true = stays naming name number true
named_decorated naming decorations names name number false = by_symbol (symbol_for decorations name) refl
  where
    by_exported : (symbol : List ℕ) → is_decorated name symbol ≡ true → (b : Bool)
        → IsDecorated naming (named_one name number false)
        (cond b (named_one name number false) (record (named_one name number false) { name = word_naming naming symbol; alias_target = name }))
    by_exported symbol is true = stays naming name number false
    by_exported symbol is false = given naming name symbol number false is

    by_symbol : (o : Option (List ℕ)) → symbol_for decorations name ≡ o
        → IsDecorated naming (named_one name number false) (with_word names (named_one name number false) (option_map (word_naming naming) (symbol_for decorations name)))
    by_symbol None none = grind (arith, stays)
    by_symbol (Some symbol) some = grind (arith, by_exported, found_decorated)

module _ (naming : NamingView) (decorations : List DecorationView) (names : List NameEntry) where
  -- exports with their symbols
  abbrev decorated : List ExportView → List ExportView
  decorated xs = with_symbols naming decorations names xs

  -- they are words that ask for what the others do, and serve
  record AreDecorated (xs : List ExportView) : Type 0 where
    pub words : AreWords (decorated xs)
    pub asks : map ask_of_word (map to_word (decorated xs)) ≡ map ask_of xs
    pub serve : list_all (serves I386 naming) (map to_word (decorated xs)) ≡ true

  decorated-nil : AreDecorated []
  decorated-nil = record { words = refl; asks = refl; serve = refl }

  decorated-one : (x : ExportView) → IsDecorated naming x (decorated_export naming decorations names x) → AreDecorated (x ∷ [])
  decorated-one x is = grind arith

  decorated-append : (xs ys : List ExportView) → AreDecorated xs → AreDecorated ys → AreDecorated (xs ++ ys)
  decorated-append xs ys first second = grind (arith, map-append, words-append, list_all-append)

  named_part : (text : List ℕ) (position : ℕ) (o : Option Target) → AreDecorated (named_of text position o)
  named_part text position None = decorated-nil
  named_part text position (Some target) = grind (arith, decorated-one, named_decorated)

  named_parts : (targets : List Target) (entries : List NameEntry) (position : ℕ) → AreDecorated (named_from targets entries position)
  unfolding named_from
  named_parts targets [] position = decorated-nil
  named_parts targets (n ∷ entries) position =
      decorated-append (named_of n.text position (target_at targets n.index)) (named_from targets entries (position + 1))
      (named_part n.text position (target_at targets n.index)) (named_parts targets entries (position + 1))

  numbered_part : (ordinal : ℕ) (o : Option Target) → AreDecorated (numbered_to ordinal o)
  numbered_part ordinal None = decorated-nil
  numbered_part ordinal (Some target) = record { words = refl; asks = refl; serve = refl }

  numbered_parts : (rows : List Row) → AreDecorated (flat_map numbered_of rows)
  numbered_parts [] = decorated-nil
  numbered_parts (r ∷ rows) = grind (arith, numbered_parts rows, decorated-append, numbered_part)

  are_decorated : (e : Exports) → AreDecorated (exports_of e)
  are_decorated e =
      decorated-append (named_from e.targets e.names 0) (flat_map numbered_of (rows_of e)) (named_parts e.targets e.names 0) (numbered_parts (rows_of e))

pub decorated_libraries_ask_for_exports : DecoratedLibrariesAskForExports
decorated_libraries_ask_for_exports e decorations options members fits asking on_i386 apart m =
    let are = are_decorated options.naming decorations e.names e in
    of_list e options (decorated_exports options.naming decorations e) members fits asking are.words are.asks
    (subst (λ machine. list_all (serves machine options.naming) (map to_word (decorated_exports options.naming decorations e)) ≡ true) (sym on_i386) are.serve) apart m
