-- The import tables of the library of a definition: they are whole, and of one DLL.
use Rattle.std.proofs.Common.{◌≡◌, ◌∙◌, ℕ, ◌+◌, Bool, true, false, ◌&&◌, ◌||◌, inl, inr, ◌⊎◌, List, [], ◌∷◌, ◌++◌, Option, None, Some, ap, codes, drop, fold, if◌then◌else◌, length, map, refl, reverse, subst, sym, take}
use Rattle.std.specs.List.{AllByRecursion, cons_option, filter, filter_map, list_any}
use Rattle.std.specs.Prelude.{not}
use Rattle.std.specs.Option.{option_map, option_map_or}
use Rattle.std.proofs.lemmas.Bool.{true≢false}
use Rattle.std.proofs.lemmas.List.{reverse-reverse, take-append-drop}
use Rattle.std.proofs.lemmas.Option.{same_Some}
use Rattle.std.proofs.lemmas.Slice.Eq.{bytes_eq-Decides}
use Rattle.implib.specs.declared.flavor.Flavor.{Flavor}
use Rattle.implib.specs.declared.flavor.Flavor.TheVariants.{Gnu, Msvc}
use Rattle.implib.specs.declared.machine.MachineType.{MachineType}
use Rattle.implib.specs.Definition.{DefinitionView, ExportView}
use Rattle.implib.specs.Formats.File.{File, ShortImportFile, ObjectFile, Meaning, alias_of_object, file_in}
use Rattle.implib.specs.Formats.File.{AnAlias as MeansAlias, AnImport as MeansImport}
use Rattle.implib.specs.Formats.Object.{Object, ObjectSection}
use Rattle.implib.specs.Import.{Alias, Import, expected_import, imp_symbol, is_alias, public_exports}
use Rattle.implib.specs.LibraryName.{names_for}
use Rattle.implib.specs.Members.Gnu.{weak_address_name, weak_name}
use Rattle.implib.specs.Members.GnuMembers.{alias_specs, export_spec, numbered_specs, numbered_specs_of}
use Rattle.implib.specs.Members.GnuReader.{externals_in, section_named, text_section}
use Rattle.implib.specs.Members.MemberLists.{is_weak}
use Rattle.implib.specs.Members.Members.{AreMembersOf, member_specs}
use Rattle.implib.specs.Members.MemberSpec.{MemberSpec, MemberView, member_of}
use Rattle.implib.specs.Members.ReadBack.{GnuReadBack, ReadBack, file_of, import_among}
use Rattle.implib.specs.Members.WeakExternal.{weak_spec}
use Rattle.implib.specs.Renaming.{renamed}
use Rattle.implib.proofs.Members.GnuLoop.{map-reverse}
use Rattle.implib.proofs.Members.MemberReadings.{all_append}
use Rattle.implib.proofs.Members.Renaming.{renamed_twice}
use Rattle.implib_archive.specs.Archive.{archive_of}
use Rattle.implib_archive.specs.Refusal.{refusal_of}
use Rattle.implib_archive.specs.declared.kind.Kind.{Kind}
use Rattle.implib_read.specs.Archives.{archive_in}
use Rattle.implib_read.specs.Classes.{Class, AnImport, AnAlias, Descriptor, NullDescriptor, NullThunk, Head, Tail, DelayImport, Other, NotUnderstood, Imported, MemberRead, class_by_delayed_tables, class_by_helper, class_by_tables, class_of_delayed_thunks, class_of_file, class_of_part, class_of_sections, class_with, files_of, has_section, is_empty, kind_of_code, library_in, members_read}
use Rattle.implib_read.specs.Delayed.{calls_helper, delayed_import}
use Rattle.implib_read.specs.Files.{definer_among, file_found}
use Rattle.implib_read.specs.Files.{ObjectFile as FoundObject}
use Rattle.implib_read.specs.Following.{Place}
use Rattle.implib_read.specs.Imports.{import_of_object}
use Rattle.implib_read.specs.Objects.{SameObjects}
use Rattle.implib_read.specs.OwnLibraries.{IsGnuLibraryOf, OwnGnuLibraries, OwnMembersFound, meaning_of_class}
use Rattle.implib_read.specs.ShortImports.{SameShortImports}
use Rattle.implib_read.proofs.OwnGnu.{reversed_all}
use Rattle.implib_read.proofs.OwnGnuLibrary.{gnu_files_plain, gnu_files_read, own_gnu_files}
use Rattle.implib_read.proofs.OwnMembers.{files_as, files_of_specs, found_of}
use Rattle.implib_read.proofs.OwnMsvc.{archive_by, classes_read, map_twice}
use Rattle.implib_rules.specs.ExportAs.{AreMadeFor}
use Rattle.implib_rules.specs.Library.{definition_text}
use Rattle.implib_rules.specs.Linked.{NamingView}
use Rattle.implib_rules.specs.Order.{LibraryReads, library_specs, own_imports}
use Rattle.implib_rules.proofs.PlainNames.{plain_of}
use Rattle.implib_compare.specs.declared.working.Piece.{Piece}
use Rattle.implib_compare.specs.declared.working.Piece.TheVariants as piece
use Rattle.implib_compare.specs.declared.working.Working.TheVariants.{Works}
use Rattle.implib_compare.specs.Comparison.{has_unread}
use Rattle.implib_read.specs.declared.import.ImportKind.TheVariants.{Delayed}
use Rattle.implib_read.specs.Identity.{dll_of, dlls_of, with_dll_of, with_name}
use Rattle.implib_check_driver.specs.OwnExportAs.{MeantIsMade, SaysWhatIsMade, has_third_text, imports_by_texts, imports_made}
use Rattle.implib_check_driver.specs.OwnLibraries.{by_export, meanings_read}
use Rattle.implib_check_driver.specs.OwnTables.{OwnTablesAreWhole}
use Rattle.implib_compare.specs.Flavors.{flavor_of, is_for_msvc, tells_code}
use Rattle.implib_compare.specs.Working.{has_one_from, has_whole_tables, is_piece, works_of}
use Rattle.implib_check_driver.proofs.MadeLibraries.{header_by_texts, made_by_texts}
use Rattle.implib_check_driver.proofs.OwnLibraries.{HasHeader, all_told, any_members, header_msvc, made_plainly}

-- Parts of import tables.

-- whether one class more is this part, or none where one has been
one_from : Bool → Piece → List Class → Bool
one_from seen wanted [] = seen
one_from seen wanted (c ∷ cs) = if is_piece wanted c then (if seen then false else one_from true wanted cs) else one_from seen wanted cs

one_by : (seen : Bool) (wanted : Piece) (members : List MemberRead) → has_one_from seen wanted members ≡ one_from seen wanted (map (λ m. m.class) members)
unfolding one_from
one_by seen wanted [] = refl
one_by seen wanted (m ∷ members) =
    ap (λ x. if is_piece wanted m.class then (if seen then false else x) else has_one_from seen wanted members) (one_by true wanted members)
    ∙ ap (λ x. if is_piece wanted m.class then (if seen then false else one_from true wanted (map (λ m. m.class) members)) else x) (one_by seen wanted members)

none_left : (seen : Bool) (wanted : Piece) (cs : List Class) → list_any (is_piece wanted) cs ≡ false → one_from seen wanted cs ≡ seen
unfolding one_from
none_left seen wanted [] none = refl
none_left seen wanted (c ∷ cs) none = by (is_piece wanted c) (none_left seen wanted cs) none
  where
    by : (b : Bool) → (list_any (is_piece wanted) cs ≡ false → one_from seen wanted cs ≡ seen) → (b || list_any (is_piece wanted) cs) ≡ false
        → (if b then (if seen then false else one_from true wanted cs) else one_from seen wanted cs) ≡ seen
    by false rest is = rest is
    by true rest is = absurd (true≢false is)

no_import : (wanted : Piece) (i : Imported) → is_piece wanted (AnImport i) ≡ false
no_import piece.OfDescriptor i = refl
no_import piece.OfNullDescriptor i = refl
no_import piece.OfNullThunk i = refl
no_import piece.OfHead i = refl
no_import piece.OfTail i = refl

no_alias : (wanted : Piece) (a : Alias) → is_piece wanted (AnAlias a) ≡ false
no_alias piece.OfDescriptor a = refl
no_alias piece.OfNullDescriptor a = refl
no_alias piece.OfNullThunk a = refl
no_alias piece.OfHead a = refl
no_alias piece.OfTail a = refl

no_piece : (wanted : Piece) (cs : List Class) (ms : List Meaning) → map meaning_of_class cs ≡ map Some ms → list_any (is_piece wanted) cs ≡ false
no_piece wanted cs ms same = all_told (is_piece wanted) (no_import wanted) (no_alias wanted) cs ms same

-- the classes are the header, and those after it
with_header : (n : ℕ) (header : List Class) (members : List MemberRead) → take n (map (λ m. m.class) members) ≡ header
    → map (λ m. m.class) members ≡ header ++ drop n (map (λ m. m.class) members)
with_header n header members is =
    let cs = map (λ (m : MemberRead). m.class) members in
    sym (take-append-drop n cs) ∙ ap (λ front. front ++ drop n cs) is

both : (a b : Bool) → a ≡ true → b ≡ true → (a && b) ≡ true
both a b first second = ap (λ x. x && b) first ∙ second

whole_msvc : (members : List MemberRead) (ms : List Meaning) → HasHeader 3 (Descriptor ∷ NullDescriptor ∷ NullThunk ∷ []) members ms → has_whole_tables Msvc members ≡ true
unfolding one_from
whole_msvc members ms has =
    let cs = map (λ (m : MemberRead). m.class) members in
    let rest = drop 3 cs in
    let is = with_header 3 (Descriptor ∷ NullDescriptor ∷ NullThunk ∷ []) members has.first in
    let one : (wanted : Piece) → one_from false wanted (Descriptor ∷ NullDescriptor ∷ NullThunk ∷ rest) ≡ one_from true wanted rest → has_one_from false wanted members ≡ true =
    λ wanted seen. one_by false wanted members ∙ ap (one_from false wanted) is ∙ seen ∙ none_left true wanted rest (no_piece wanted rest ms has.rest) in
    both _ _ (one piece.OfDescriptor refl) (both _ _ (one piece.OfNullDescriptor refl) (one piece.OfNullThunk refl))

whole_gnu : (members : List MemberRead) (ms : List Meaning) → HasHeader 2 (Tail ∷ Head ∷ []) members ms → has_whole_tables Gnu members ≡ true
unfolding one_from
whole_gnu members ms has =
    let cs = map (λ (m : MemberRead). m.class) members in
    let rest = drop 2 cs in
    let is = with_header 2 (Tail ∷ Head ∷ []) members has.first in
    let one : (wanted : Piece) → one_from false wanted (Tail ∷ Head ∷ rest) ≡ one_from true wanted rest → has_one_from false wanted members ≡ true =
    λ wanted seen. one_by false wanted members ∙ ap (one_from false wanted) is ∙ seen ∙ none_left true wanted rest (no_piece wanted rest ms has.rest) in
    both _ _ (one piece.OfHead refl) (one piece.OfTail refl)

-- The flavour.

flavor_msvc : (members : List MemberRead) (ms : List Meaning) → HasHeader 3 (Descriptor ∷ NullDescriptor ∷ NullThunk ∷ []) members ms → flavor_of members ≡ Msvc
flavor_msvc members ms has =
    ap (λ b. if b then Msvc else Gnu)
    (any_members is_for_msvc members ∙ ap (list_any is_for_msvc) (with_header 3 (Descriptor ∷ NullDescriptor ∷ NullThunk ∷ []) members has.first))

-- whether a file is an object
unfoldable is_object : File → Bool
is_object (ShortImportFile r) = false
is_object (ObjectFile o) = true

abbrev AreObjects : List MemberSpec → Type 0
AreObjects specs = AllByRecursion (λ p. is_object (file_of p.contents) ≡ true) specs

aliases_objects : (machine : MachineType) (dll : List ℕ) (number : ℕ) (e : ExportView) → AreObjects (alias_specs machine dll number e)
unfolding alias_specs is_object
aliases_objects machine dll number e = by (is_alias e.alias_target e.name)
  where
    by : (b : Bool) → AreObjects (if b then weak_spec machine (weak_name dll number) e.name e.alias_target
        ∷ weak_spec machine (weak_address_name dll number) (imp_symbol e.name) (imp_symbol e.alias_target) ∷ [] else [])
    by false = tt
    by true = (refl, (refl, tt))

numbered_objects : (machine : MachineType) (dll : List ℕ) (number : ℕ) (exports : List ExportView) → AreObjects (numbered_specs machine dll number exports)
unfolding export_spec is_object
numbered_objects machine dll number [] = tt
numbered_objects machine dll number (e ∷ exports) =
    all_append (λ p. is_object (file_of p.contents) ≡ true) (numbered_specs_of machine dll number e) (numbered_specs machine dll (number + 1) exports)
    (all_append (λ p. is_object (file_of p.contents) ≡ true) (alias_specs machine dll number e) (export_spec machine dll number e ∷ []) (aliases_objects machine dll number e) (refl, tt))
    (numbered_objects machine dll (number + 1) exports)

code_untold : (names : List (List ℕ)) → tells_code (kind_of_code names) ≡ false
code_untold [] = refl
code_untold (name ∷ names) = refl

-- an object that neither imports nor renames means nothing
by_tables : (a : Bool) (s : Option ObjectSection) (t : Bool) (n : Option ObjectSection) → meaning_of_class (if a then NullDescriptor else class_of_sections s t n) ≡ None
by_tables true s t n = refl
by_tables false (Some s) t n = by (is_empty s.bytes) t
  where
    by : (a t : Bool) → meaning_of_class (if a then DelayImport else if t then Head else Descriptor) ≡ None
    by true t = refl
    by false true = refl
    by false false = refl
by_tables false None false n = refl
by_tables false None true None = refl
by_tables false None true (Some s) = by (is_empty s.bytes) (is_empty s.relocations)
  where
    by : (a b : Bool) → meaning_of_class (if a then DelayImport else if b then Tail else NotUnderstood) ≡ None
    by true b = refl
    by false true = refl
    by false false = refl

-- nor does it by its helper
by_delayed : (t : Bool) (n : Option ObjectSection) → meaning_of_class (if t then class_of_delayed_thunks n else Other) ≡ None
by_delayed false n = refl
by_delayed true None = refl
by_delayed true (Some s) = by_tables false None true (Some s)

by_helper : (o : Object) (c : Class) → meaning_of_class c ≡ None → meaning_of_class (class_by_helper o c) ≡ None
by_helper o (AnImport i) none = cc
by_helper o (AnAlias a) none = cc
by_helper o Descriptor none = refl
by_helper o NullDescriptor none = refl
by_helper o NullThunk none = refl
by_helper o Head none = refl
by_helper o Tail none = refl
by_helper o DelayImport none = by (calls_helper o)
  where
    by : (b : Bool) → meaning_of_class (if b then Head else DelayImport) ≡ None
    by true = refl
    by false = refl
by_helper o Other none = by (calls_helper o)
  where
    by : (b : Bool) → meaning_of_class (if b then Head else class_by_delayed_tables o) ≡ None
    by true = refl
    by false = by_delayed (has_section o (codes ".didat$5")) (section_named o (codes ".didat$7"))
by_helper o NotUnderstood none = refl

-- an object is no short import that tells code
object_untold : (defined : List ℕ → Option Place) (o : Object) (m : Meaning) → meaning_of_class (class_of_file defined (FoundObject o)) ≡ Some m
    → is_for_msvc (class_of_file defined (FoundObject o)) ≡ false
object_untold defined o m means = by (alias_of_object o) (import_of_object defined o) (delayed_import defined o) means
  where
    by : (a : Option Alias) (i delayed : Option Import)
        → meaning_of_class (class_with o a (option_map (λ x. record { imports = x; kind = kind_of_code (externals_in o text_section); machine = o.machine }) i)
        (option_map (λ x. record { imports = x; kind = Delayed; machine = o.machine }) delayed)) ≡ Some m
        → is_for_msvc (class_with o a (option_map (λ x. record { imports = x; kind = kind_of_code (externals_in o text_section); machine = o.machine }) i)
        (option_map (λ x. record { imports = x; kind = Delayed; machine = o.machine }) delayed)) ≡ false
    by (Some a) i delayed is = refl
    by None (Some i) delayed is = code_untold (externals_in o text_section)
    by None None (Some i) is = refl
    by None None None is =
        let none : meaning_of_class (class_of_part o) ≡ None =
        by_helper o (class_by_tables o)
        (by_tables (has_section o (codes ".idata$3")) (section_named o (codes ".idata$2")) (has_section o (codes ".idata$5")) (section_named o (codes ".idata$7"))) in
        let no : None ≡ Some m = sym none ∙ is in cc

none_told : (defined : List ℕ → Option Place) (specs : List MemberSpec) (ms : List Meaning) → AreObjects specs
    → map meaning_of_class (map (class_of_file defined) (map found_of (files_of_specs specs))) ≡ map Some ms
    → list_any is_for_msvc (map (class_of_file defined) (map found_of (files_of_specs specs))) ≡ false
unfolding is_object found_of
none_told defined [] ms objects same = refl
none_told defined (p ∷ specs) [] objects same = cc
none_told defined (p ∷ specs) (m ∷ ms) objects same =
    let first : meaning_of_class (class_of_file defined (found_of (file_of p.contents))) ≡ Some m = cc in
    let rest : map meaning_of_class (map (class_of_file defined) (map found_of (files_of_specs specs))) ≡ map Some ms = cc in
    both_false _ _ (by (file_of p.contents) objects.0 first) (none_told defined specs ms objects.1 rest)
  where
    both_false : (a b : Bool) → a ≡ false → b ≡ false → (a || b) ≡ false
    both_false a b x y = ap (λ c. c || b) x ∙ y

    by : (f : File) → is_object f ≡ true → meaning_of_class (class_of_file defined (found_of f)) ≡ Some m → is_for_msvc (class_of_file defined (found_of f)) ≡ false
    by (ShortImportFile r) object means = absurd (true≢false (sym object))
    by (ObjectFile o) object means = object_untold defined o m means

-- One DLL.

OfDll : List ℕ → Meaning → Type 0
OfDll dll (MeansImport i) = i.dll ≡ dll
OfDll dll (MeansAlias a) = Unit {0}

all_of_dll : (dll : List ℕ) (ms : List Meaning) → AllByRecursion (λ (i : Import). i.dll ≡ dll) (filter_map import_among ms) → AllByRecursion (OfDll dll) ms
unfolding OfDll
all_of_dll dll [] all = tt
all_of_dll dll (MeansImport i ∷ ms) all = (all.0, all_of_dll dll ms all.1)
all_of_dll dll (MeansAlias a ∷ ms) all = (tt, all_of_dll dll ms all)

expected_of_dll : (machine : MachineType) (dll : List ℕ) (exports : List ExportView) → AllByRecursion (λ (i : Import). i.dll ≡ dll) (map (expected_import machine dll) exports)
expected_of_dll machine dll [] = tt
expected_of_dll machine dll (e ∷ exports) = (refl, expected_of_dll machine dll exports)

texts_of_dll : (b : Bool) (machine : MachineType) (d : DefinitionView) → AllByRecursion (λ (i : Import). i.dll ≡ d.import_name) (if b then imports_by_texts machine d else own_imports machine d)
texts_of_dll true machine d =
    all_append (λ (i : Import). i.dll ≡ d.import_name) (map (expected_import machine d.import_name) (filter (λ e. not (has_third_text machine e) && not (is_weak e)) (public_exports d)))
    (map (expected_import machine d.import_name) (filter (has_third_text machine) (public_exports d)))
    (expected_of_dll machine d.import_name _) (expected_of_dll machine d.import_name _)
texts_of_dll false machine d = expected_of_dll machine d.import_name _

made_of_dll : (naming : NamingView) (flavor : Flavor) (machine : MachineType) (d : DefinitionView) → AllByRecursion (λ (i : Import). i.dll ≡ d.import_name) (imports_made naming flavor machine d)
made_of_dll naming Msvc machine d = texts_of_dll naming.exports_as machine d
made_of_dll naming Gnu machine d = expected_of_dll machine d.import_name _

in_any_order : (flavor : Flavor) (dll : List ℕ) (ms : List Meaning) → AllByRecursion (OfDll dll) (by_export flavor ms) → AllByRecursion (OfDll dll) ms
in_any_order Msvc dll ms all = all
in_any_order Gnu dll ms all = subst (AllByRecursion (OfDll dll)) (reverse-reverse ms) (reversed_all (OfDll dll) (reverse ms) all)

-- names that are none, or this one
IsOneOf : List ℕ → List (List ℕ) → Type 0
IsOneOf dll names = (names ≡ []) ⊎ (names ≡ dll ∷ [])

one_more : (dll other : List ℕ) (names : List (List ℕ)) → other ≡ dll → IsOneOf dll names → IsOneOf dll (with_name names other)
unfolding IsOneOf
one_more dll other names same (inl none) = inr (ap (λ ns. with_name ns other) none ∙ ap (λ n. n ∷ []) same)
one_more dll other names same (inr one) =
    inr (ap (λ ns. with_name ns other) one ∙ ap (λ n. with_name (dll ∷ []) n) same
    ∙ ap (λ b. if b || false then dll ∷ [] else dll ∷ dll ∷ []) ((bytes_eq-Decides dll dll).1 refl))

dlls_one : (dll : List ℕ) (names : List (List ℕ)) (members : List MemberRead) → IsOneOf dll names → AllByRecursion (OfDll dll) (meanings_read members) → IsOneOf dll (fold with_dll_of names members)
unfolding OfDll
dlls_one dll names [] so_far all = so_far
dlls_one dll names (m ∷ members) so_far all = by m.class (λ ns. dlls_one dll ns members) so_far all
  where
    by : (c : Class) → ((ns : List (List ℕ)) → IsOneOf dll ns → AllByRecursion (OfDll dll) (meanings_read members) → IsOneOf dll (fold with_dll_of ns members))
        → IsOneOf dll names → AllByRecursion (OfDll dll) (cons_option (meaning_of_class c) (meanings_read members)) → IsOneOf dll (fold with_dll_of (option_map_or (with_name names) (dll_of c) names) members)
    by (AnImport i) rest so_far all = rest (with_name names i.imports.dll) (one_more dll i.imports.dll names all.0 so_far) all.1
    by (AnAlias a) rest so_far all = rest names so_far all.1
    by Descriptor rest so_far all = rest names so_far all
    by NullDescriptor rest so_far all = rest names so_far all
    by NullThunk rest so_far all = rest names so_far all
    by Head rest so_far all = rest names so_far all
    by Tail rest so_far all = rest names so_far all
    by DelayImport rest so_far all = rest names so_far all
    by Other rest so_far all = rest names so_far all
    by NotUnderstood rest so_far all = rest names so_far all

says_one : (naming : NamingView) (flavor : Flavor) (machine : MachineType) (d : DefinitionView) (members : List MemberRead) → SaysWhatIsMade naming d machine flavor members → IsOneOf d.import_name (dlls_of members)
unfolding IsOneOf
says_one naming flavor machine d members says =
    dlls_one d.import_name [] members (inl refl)
    (in_any_order flavor d.import_name (meanings_read members)
    (all_of_dll d.import_name (by_export flavor (meanings_read members)) (subst (AllByRecursion (λ (i : Import). i.dll ≡ d.import_name)) (sym says.imports) (made_of_dll naming flavor machine d))))

works : (dll : List ℕ) (names : List (List ℕ)) (unread whole : Bool) → unread ≡ false → whole ≡ true → IsOneOf dll names → works_of false unread (length names) whole ≡ Works
unfolding IsOneOf
works dll names unread whole read is (inl none) = ap (λ u. works_of false u (length names) whole) read ∙ ap (λ (ns : List (List ℕ)). works_of false false (length ns) whole) none
works dll names unread whole read is (inr one) =
    ap (λ u. works_of false u (length names) whole) read ∙ ap (λ (ns : List (List ℕ)). works_of false false (length ns) whole) one ∙ ap (works_of false false 1) is

-- Libraries of either flavour.

header_gnu : OwnGnuLibraries → (kind : Kind) (d : DefinitionView) (machine : MachineType) (members : List MemberView) (meant : List MemberRead)
    → GnuReadBack d machine members → refusal_of kind members ≡ None → library_in (archive_of kind members) ≡ Some meant → (ms : List Meaning) × HasHeader 2 (Tail ∷ Head ∷ []) meant ms
header_gnu law kind d machine members meant back accepted there =
    let own = law kind d machine members back accepted in
    let cs = map (λ (m : MemberRead). m.class) meant in
    let same = same_Some _ _ (sym own.found ∙ ap (option_map (map (λ m. m.class))) there) in
    let means = subst (IsGnuLibraryOf d machine) same own.means in (
      reverse means.meanings,
      record {
        first = means.header;
        rest = sym (reverse-reverse (map meaning_of_class (drop 2 cs)))
            ∙ ap reverse (sym (map-reverse meaning_of_class (drop 2 cs)) ∙ means.read)
            ∙ sym (map-reverse Some means.meanings);
      },
    )

flavor_gnu : OwnMembersFound → SameShortImports → SameObjects → (kind : Kind) (d : DefinitionView) (machine : MachineType) (members : List MemberView) (meant : List MemberRead) (ms : List Meaning)
    → GnuReadBack d machine members → refusal_of kind members ≡ None → library_in (archive_of kind members) ≡ Some meant → HasHeader 2 (Tail ∷ Head ∷ []) meant ms → flavor_of meant ≡ Gnu
unfolding library_in
flavor_gnu own imports objects kind d machine members meant ms back accepted there has =
    let bytes = archive_of kind members in
    let contents = map (λ (m : MemberView). m.bytes) members in
    let dll = names_for Gnu (renamed d) in
    let built = reverse (numbered_specs machine dll.linked 0 (public_exports (renamed d))) in
    let fs = own_gnu_files d machine in
    let found = archive_by bytes contents (archive_in bytes) refl (own kind members accepted) in
    let stored = found.archive.members in
    let defined = definer_among (files_of stored) in
    let files : map file_in contents ≡ map Some fs = map_twice file_in (λ (m : MemberView). m.bytes) members ∙ gnu_files_read d machine members back in
    let read : map file_found (map (λ m. m.bytes) stored) ≡ map found_of fs = ap (map file_found) found.same ∙ files_as imports objects contents fs files (gnu_files_plain d machine) in
    let whole : members_read stored ≡ meant = same_Some _ _ (sym (ap (option_map (λ archive. members_read archive.members)) found.is) ∙ there) in
    let classes : map (λ m. m.class) meant ≡ map (class_of_file defined) (map found_of fs) =
    sym (ap (map (λ m. m.class)) whole) ∙ classes_read stored ∙ ap (map (class_of_file defined)) read in
    let built_classes = map (class_of_file defined) (map found_of (files_of_specs built)) in
    let rest : drop 2 (map (λ m. m.class) meant) ≡ built_classes = ap (drop 2) classes in
    let untold = none_told defined built ms (reversed_all (λ (p : MemberSpec). is_object (file_of p.contents) ≡ true) (numbered_specs machine dll.linked 0 (public_exports (renamed d))) (numbered_objects machine dll.linked 0 (public_exports (renamed d))))
    (ap (map meaning_of_class) (sym rest) ∙ has.rest) in
    ap (λ b. if b then Msvc else Gnu)
    (any_members is_for_msvc meant ∙ ap (list_any is_for_msvc) (with_header 2 (Tail ∷ Head ∷ []) meant has.first) ∙ ap (list_any is_for_msvc) rest ∙ untold)

whole_plainly : OwnMembersFound → SameShortImports → SameObjects → OwnGnuLibraries → (kind : Kind) (d : DefinitionView) (machine : MachineType) (flavor : Flavor) (all members : List MemberView) (meant : List MemberRead)
    → AreMembersOf (renamed d) machine flavor all → ReadBack (renamed d) machine flavor all → members ≡ map member_of (library_specs (renamed d) machine flavor)
    → LibraryReads (renamed d) machine flavor members → refusal_of kind members ≡ None → library_in (archive_of kind members) ≡ Some meant
    → has_whole_tables (flavor_of meant) meant ≡ true
whole_plainly own imports objects law kind d machine Msvc all members meant made back is reads accepted there =
    let has = header_msvc own imports objects kind (renamed d) machine all members meant made back.files (renamed_twice d) is reads accepted there in
    ap (λ f. has_whole_tables f meant) (flavor_msvc meant _ has) ∙ whole_msvc meant _ has
whole_plainly own imports objects law kind d machine Gnu all members meant made back is reads accepted there =
    let same : all ≡ members = made.made ∙ ap (λ (x : DefinitionView). map member_of (member_specs x machine Gnu)) (renamed_twice d) ∙ sym is in
    let read = subst (GnuReadBack (renamed d) machine) same back in
    let has = header_gnu law kind (renamed d) machine members meant read accepted there in
    ap (λ f. has_whole_tables f meant) (flavor_gnu own imports objects kind (renamed d) machine members meant has.0 read accepted there has.1) ∙ whole_gnu meant has.0 has.1

whole_with : OwnMembersFound → SameShortImports → SameObjects → OwnGnuLibraries → (kind : Kind) (naming : NamingView) (d : DefinitionView) (machine : MachineType) (flavor : Flavor) (members : List MemberView) (meant : List MemberRead)
    → naming.exports_as ≡ true → AreMadeFor naming (renamed d) machine flavor members → AllByRecursion (λ e. e.symbol_name ≡ []) (public_exports (renamed d))
    → refusal_of kind members ≡ None → library_in (archive_of kind members) ≡ Some meant → has_whole_tables (flavor_of meant) meant ≡ true
whole_with own imports objects law kind naming d machine Msvc members meant on made plain accepted there =
    let has = header_by_texts own imports objects kind d machine members meant (made_by_texts naming (renamed d) machine members made on) plain accepted there in
    ap (λ f. has_whole_tables f meant) (flavor_msvc meant _ has) ∙ whole_msvc meant _ has
whole_with own imports objects law kind naming d machine Gnu members meant on made plain accepted there =
    whole_plainly own imports objects law kind d machine Gnu made.all members meant made.made made.reads made.is tt accepted there

whole : OwnMembersFound → SameShortImports → SameObjects → OwnGnuLibraries → (kind : Kind) (naming : NamingView) (d : DefinitionView) (machine : MachineType) (flavor : Flavor) (members : List MemberView) (meant : List MemberRead)
    → AreMadeFor naming (renamed d) machine flavor members → AllByRecursion (λ e. e.symbol_name ≡ []) (public_exports (renamed d))
    → (naming.exports_as ≡ false → LibraryReads (renamed d) machine flavor members)
    → refusal_of kind members ≡ None → library_in (archive_of kind members) ≡ Some meant → has_whole_tables (flavor_of meant) meant ≡ true
whole own imports objects law kind naming d machine flavor members meant made plain reads accepted there = by naming.exports_as refl
  where
    by : (b : Bool) → naming.exports_as ≡ b → has_whole_tables (flavor_of meant) meant ≡ true
    by true on = whole_with own imports objects law kind naming d machine flavor members meant on made plain accepted there
    by false off =
        let plainly = made_plainly naming (renamed d) machine flavor members made off in
        whole_plainly own imports objects law kind d machine flavor plainly.all members meant plainly.made plainly.reads plainly.is (reads off) accepted there

pub tables_are_whole : OwnMembersFound → SameShortImports → SameObjects → OwnGnuLibraries → MeantIsMade → OwnTablesAreWhole
tables_are_whole own imports objects law meant_made definition options file members is there =
    let made = is.members_for in
    let says = meant_made definition options file members is there in
    let read = sym (ap library_in is.is) ∙ there in
    let plain = plain_of (definition_text definition) options made.definition made.of_text in
    works _ (dlls_of members) (has_unread members) (has_whole_tables (flavor_of members) members) says.says.read
    (whole own imports objects law _ options.naming made.definition options.machine options.flavor is.members members made.made_for plain made.library_reads is.accepted read)
    (says_one options.naming options.flavor options.machine (renamed says.d) members says.says)
