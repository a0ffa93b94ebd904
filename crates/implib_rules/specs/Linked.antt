-- By which symbols exports are linked, and what they ask the DLL for: the rules of GNU dlltool and
-- llvm-dlltool (docs/DECISIONS.md). A word is one of the definition as it is written.
use Rattle.std.specs.Prelude.{ℕ, ◌≡◌, ◌==◌, Bool, true, false, not, ◌&&◌, ◌||◌, List, [], ◌∷◌, ◌++◌}
use Rattle.std.specs.Prelude.{Option, Some, None, if◌then◌else◌, bytes_eq, length, map}
use Rattle.std.specs.Prelude.{codes, drop, nat_eq, nat_lt, suc}
use Rattle.std.specs.Char.{is_ascii_digit}
use Rattle.std.specs.Option.{option_map}
use Rattle.implib.specs.declared.flavor.Flavor.{Flavor}
use Rattle.implib.specs.declared.flavor.Flavor.TheVariants.{Msvc, Gnu}
use Rattle.implib.specs.declared.machine.MachineType.{MachineType}
use Rattle.implib.specs.Ascii.{at_sign, begins_with, question_mark, underscore}
use Rattle.implib.specs.Definition.{DefinitionView, ExportView, empty_export}
use Rattle.implib.specs.Formats.ShortImport.{before_at_sign, without_prefix}
use Rattle.implib.specs.Import.{is_empty_text, name_asked}
use Rattle.implib.specs.Machine.{has_leading_underscore}
use Rattle.implib.specs.Members.MemberLists.{has_code}
use Rattle.implib.specs.Renaming.{name_to_link}
use Rattle.std.specs.List.{after_first, before_first, before_last, ends_with, find, list_all}
use Rattle.std.specs.List.{list_any, position_or_len}
use Rattle.implib_rules.specs.declared.linked.Naming.{Naming}

-- how names are read on I386, and how a short import names what Microsoft's linker asks for
pub record NamingView : Type 0 where
  -- symbols are as written
  pub is_plain : Bool
  -- names are asked for without their `@` and the number after it
  pub kills_at : Bool
  -- a name that no other name type makes of its symbol is the third text of a short import
  -- (ExportAs)
  pub exports_as : Bool
  -- a word with an `@` is a symbol as it is (LIB)
  pub keeps_decorated : Bool

-- the view of the rules of the program
abbrev pub naming_view : Naming → NamingView
naming_view n = record {
  is_plain = n.is_plain;
  kills_at = n.kills_at;
  exports_as = n.exports_as;
  keeps_decorated = n.keeps_decorated;
}

-- whether two `@` stand side by side in a word, before which one may stand
abbrev pub two_at_signs : Bool → List ℕ → Bool
two_at_signs before [] = false
two_at_signs before (b ∷ rest) =
    if before && b == at_sign then true else two_at_signs (b == at_sign) rest

-- whether two `@` stand side by side, as in vectorcall's `f@@8`
abbrev pub has_two_at_signs : List ℕ → Bool
has_two_at_signs word = two_at_signs false word

-- the byte is `@`
abbrev pub is_at_sign : ℕ → Bool
is_at_sign b = b == at_sign

-- Whether a word is a symbol of I386 as it is: of fastcall (`@f@8`), C++ (`?f@@YAXXZ`) or
-- vectorcall (`f@@8`); and for LIB each with an `@`, as `_f@8`.
abbrev pub keeps_word : NamingView → List ℕ → Bool
keeps_word naming word =
    begins_with at_sign word || begins_with question_mark word || has_two_at_signs word
    || (naming.keeps_decorated && list_any is_at_sign word)

-- whether a word gets the underscore of I386's C symbols
abbrev pub gets_underscore : MachineType → NamingView → List ℕ → Bool
gets_underscore machine naming word =
    has_leading_underscore machine && not naming.is_plain && not (keeps_word naming word)

-- The symbol that a word names. For example, on I386 `f` names `_f`, `f@8` `_f@8`, and `@g@8`
-- itself.
abbrev pub symbol_of : MachineType → NamingView → List ℕ → List ℕ
symbol_of machine naming word =
    if gets_underscore machine naming word then underscore ∷ word else word

-- whether a word has an `@`
abbrev pub has_at_sign : List ℕ → Bool
has_at_sign word = nat_lt (position_or_len is_at_sign word) (length word)

-- a fastcall name without its leading `@` and from its second one on, if it has both; the text
-- after the first is given
abbrev pub killed_fastcall : List ℕ → List ℕ → List ℕ
killed_fastcall behind word = if has_at_sign behind then before_first is_at_sign behind else word

-- whether a text is digits, and has some
abbrev pub is_number : List ℕ → Bool
is_number text = not (length text == 0) && list_all is_ascii_digit text

-- the text after the last `@`, of a word that has one
abbrev pub after_last_at_sign : List ℕ → List ℕ
after_last_at_sign word = drop (suc (length (before_last is_at_sign word))) word

-- A name of C++ without the size of its arguments, which Wine's definitions have behind the names of
-- functions as behind those of stdcall: without its last `@` and the digits after that, where what
-- is left ends in Z, as C++'s names of functions do. For example, `??0X@@QAE@XZ@4` gives
-- `??0X@@QAE@XZ`; `?x@@3HA` and `?x@8` stay.
abbrev pub without_size : List ℕ → List ℕ
without_size word =
    if ends_with nat_eq (before_last is_at_sign word) (codes "Z")
    && is_number (after_last_at_sign word)
    then before_last is_at_sign word else word

-- A word without its `@` and the number after it, and without the `@` of fastcall in front. For
-- example, `f@8` and `@f@8` give f, `_f@8` gives `_f`, and C++'s names lose no more than a size.
abbrev pub killed : List ℕ → List ℕ
killed word =
    if begins_with question_mark word then without_size word
    else if not (has_at_sign word) then word
    else if length (before_first is_at_sign word) == 0
    then killed_fastcall (after_first is_at_sign word) word
    else before_first is_at_sign word

-- what the DLL is asked for, for a word
abbrev pub word_asked : MachineType → NamingView → List ℕ → List ℕ
word_asked machine naming word =
    if has_leading_underscore machine && naming.kills_at then killed word else word

-- what the DLL is asked for, for a word and the one after `==`, which is asked for as it is written
abbrev pub asked_of : MachineType → NamingView → List ℕ → List ℕ → List ℕ
asked_of machine naming word target =
    if is_empty_text target then word_asked machine naming word else target

-- the word by which an export is linked
abbrev pub word_of : ExportView → List ℕ
word_of e = name_to_link e.ext_name e.name

-- what the DLL is asked for, for an export that is an import
abbrev pub export_asked : MachineType → NamingView → ExportView → List ℕ
export_asked machine naming e = asked_of machine naming (word_of e) e.alias_target

-- whether an export declares a word: it has the word, and is not private
abbrev pub declares : ExportView → List ℕ → Bool
declares e word = not e.private && bytes_eq word (word_of e)

-- whether one of these exports declares a word
abbrev pub is_declared : List ExportView → List ℕ → Bool
is_declared exports word = list_any (λ e. declares e word) exports

-- the symbol by which an export is linked
abbrev pub symbol_linked : MachineType → NamingView → ExportView → List ℕ
symbol_linked machine naming e = symbol_of machine naming (word_of e)

-- The asked name that an import gives. Where symbols have no underscore, an export without one asks
-- for its symbol, so a name that is the symbol is not given.
abbrev pub name_given : MachineType → List ℕ → List ℕ → Option (List ℕ)
name_given machine symbol asked =
    if not (has_leading_underscore machine) && bytes_eq symbol asked then None else Some asked

-- An import: the export under its symbol, and with what it asks for. For example, of `f == g` the
-- symbol is f and the name asked for g.
abbrev pub linked_import : MachineType → NamingView → ExportView → ExportView
linked_import machine naming e = record e {
  name = symbol_linked machine naming e;
  ext_name = None;
  alias_target = [];
  asked_name = name_given machine (symbol_linked machine naming e) (export_asked machine naming e);
}

-- An export that is linked as an import asks for the word after `==`, or else for what its own word
-- says, given or not.
abbrev pub AsksAsLinked : Type 0
AsksAsLinked =
    (machine : MachineType) (naming : NamingView) (e : ExportView)
    → name_asked machine (linked_import machine naming e) ≡ export_asked machine naming e

-- Whether a name type, which is name, no prefix or undecorate, makes a name of the symbol,
-- whichever linker reads it.
-- For example, on I386 they make `_f@8`, `f@8` and f of `_f@8`. On other machines, where linkers do
-- not take off the same prefixes, only name is used for a word of a definition.
abbrev pub makes : MachineType → List ℕ → List ℕ → Bool
makes machine symbol name =
    bytes_eq symbol name
    || (has_leading_underscore machine
    && (bytes_eq (without_prefix symbol) name
    || bytes_eq (before_at_sign (without_prefix symbol)) name))

-- whether an export has a word after `==`
abbrev pub has_target : ExportView → Bool
has_target e = not (is_empty_text e.alias_target)

-- Whether an export of this symbol cannot be an import by name for Microsoft's linker: it has a
-- word after `==` that no name type makes of the symbol. One that is private is left out, and one
-- by ordinal asks for no name.
abbrev pub asks_apart : MachineType → List ℕ → ExportView → Bool
asks_apart machine symbol e =
    has_target e && (not e.private && (not e.no_name && not (makes machine symbol e.alias_target)))

-- whether an export cannot be an import by name for Microsoft's linker
abbrev pub is_apart : MachineType → NamingView → ExportView → Bool
is_apart machine naming e = asks_apart machine (symbol_linked machine naming e) e

-- whether Microsoft's linker imports an export by name: it is not private, not by ordinal, and not
-- apart
abbrev pub is_named_import : MachineType → NamingView → ExportView → Bool
is_named_import machine naming e =
    not e.private && (not e.no_name && not (is_apart machine naming e))

-- whether Microsoft's linker imports an export by name and asks for this word
abbrev pub asks_for : MachineType → NamingView → List ℕ → ExportView → Bool
asks_for machine naming word e =
    is_named_import machine naming e && bytes_eq word (export_asked machine naming e)

-- the symbol of the first import by name that asks for a word
abbrev pub symbol_asking : MachineType → NamingView → List ExportView → List ℕ → Option (List ℕ)
symbol_asking machine naming exports word =
    option_map (symbol_linked machine naming) (find (asks_for machine naming word) exports)

-- The symbol of the import that an alias leads to: the word after `==` behind a question mark, or,
-- where the alias declares no code, behind an `@`. No prefix takes either off, so the DLL is asked
-- for the word; and no compiler names anything so, whatever else a program calls by the word. For
-- example, `a == b` leads to `?b`, and `a DATA == b` to `@b`.
abbrev pub own_symbol : ExportView → List ℕ
own_symbol e = (if has_code e then question_mark else at_sign) ∷ e.alias_target

-- The symbol by which the DLL is asked for the word after an alias's `==`: the alias's own, unless
-- an export declares that. Where short imports can have third texts it is that of the first import
-- by name that asks for the word, if there is one, as llvm-dlltool has it.
abbrev pub target_symbol : MachineType → NamingView → List ExportView → ExportView →
    Option (List ℕ)
target_symbol machine naming exports e =
    if naming.exports_as then symbol_asking machine naming exports e.alias_target
    else if is_declared exports (own_symbol e) then None
    else Some (own_symbol e)

-- The symbol that an export among others is weak for in a flavour, if it is an alias. One that is
-- apart and whose word after `==` has no symbol stays an import, which Microsoft's flavour refuses,
-- unless a short import can have the name as its third text.
abbrev pub alias_symbol : MachineType → NamingView → Flavor → List ExportView → ExportView →
    Option (List ℕ)
alias_symbol machine naming Gnu exports e = None
alias_symbol machine naming Msvc exports e =
    if is_apart machine naming e then target_symbol machine naming exports e else None

-- An alias: its symbol is weak for its target's. What it asks for is its own symbol, so that no
-- rule on names refuses what no member asks for.
abbrev pub linked_alias : MachineType → NamingView → List ℕ → ExportView → ExportView
linked_alias machine naming target e = record e {
  name = symbol_linked machine naming e;
  ext_name = None;
  alias_target = target;
  asked_name = Some (symbol_linked machine naming e);
}

-- an export as it is linked: weak for a symbol, or an import
abbrev pub linked_to : MachineType → NamingView → Option (List ℕ) → ExportView → ExportView
linked_to machine naming None e = linked_import machine naming e
linked_to machine naming (Some target) e = linked_alias machine naming target e

-- an export among others as it is linked
abbrev pub linked_export : MachineType → NamingView → Flavor → List ExportView → ExportView →
    ExportView
linked_export machine naming flavor exports e =
    linked_to machine naming (alias_symbol machine naming flavor exports e) e

-- the import that an alias leads to, which asks for the word after `==` as it is written
abbrev pub target_import : ExportView → ExportView
target_import e = record empty_export {
  name = own_symbol e;
  asked_name = Some e.alias_target;
  is_data = e.is_data;
  constant = e.constant;
}

-- whether a symbol is among these
abbrev pub is_among : List (List ℕ) → List ℕ → Bool
is_among symbols symbol = list_any (bytes_eq symbol) symbols

-- the symbols, and this one after them unless it is among them
abbrev pub with_symbol : List (List ℕ) → List ℕ → List (List ℕ)
with_symbol symbols symbol = if is_among symbols symbol then symbols else symbols ++ symbol ∷ []

-- whether an export is an alias that leads to an import of its own
abbrev pub adds_target : MachineType → NamingView → List ExportView → ExportView → Bool
adds_target machine naming exports e =
    is_apart machine naming e
    && (not naming.exports_as && not (is_declared exports (own_symbol e)))

-- the symbols of the imports that are added, with that of an alias
abbrev pub with_target : MachineType → NamingView → List ExportView → List (List ℕ) → ExportView →
    List (List ℕ)
with_target machine naming exports symbols e =
    if adds_target machine naming exports e then with_symbol symbols (own_symbol e) else symbols

-- the import of an alias, if it is to be added and its symbol is not among these
abbrev pub new_target : MachineType → NamingView → List ExportView → List (List ℕ) → ExportView →
    List ExportView
new_target machine naming exports symbols e =
    if adds_target machine naming exports e && not (is_among symbols (own_symbol e))
    then target_import e ∷ [] else []

-- the imports that some of the exports add, in the order of their first use, if their symbols are
-- not among these
abbrev pub targets_beside : MachineType → NamingView → List ExportView → List (List ℕ) →
    List ExportView → List ExportView
targets_beside machine naming exports symbols [] = []
targets_beside machine naming exports symbols (e ∷ rest) =
    new_target machine naming exports symbols e
    ++ targets_beside machine naming exports (with_target machine naming exports symbols e) rest

-- The imports that aliases add in a flavour, each once. For example, `a == b` and `c == b` add one
-- that asks for b.
abbrev pub targets_added : MachineType → NamingView → Flavor → List ExportView → List ExportView
targets_added machine naming Gnu exports = []
targets_added machine naming Msvc exports = targets_beside machine naming exports [] exports

-- exports as they are linked, and after them the targets that aliases add
abbrev pub linked_exports : MachineType → NamingView → Flavor → List ExportView → List ExportView
linked_exports machine naming flavor exports =
    map (linked_export machine naming flavor exports) exports
    ++ targets_added machine naming flavor exports

-- the definition with each export as it is linked, and with the targets of its aliases
abbrev pub linked : MachineType → NamingView → Flavor → DefinitionView → DefinitionView
linked machine naming flavor d =
    record d { exports = linked_exports machine naming flavor d.exports }
