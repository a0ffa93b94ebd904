-- The text of the definition that `--def` writes of a library: a line for each import and alias, in
-- the order of the library (this project's choice; docs/CHECK.md, "The definition of a library").
use Rattle.std.specs.Prelude.{ℕ, ◌==◌, Bool, not, ◌&&◌, ◌||◌, List, [], ◌∷◌, ◌++◌, bytes_eq, codes}
use Rattle.std.specs.Prelude.{decimal, drop, false, if◌then◌else◌, nat_le, take, unwrap_or}
use Rattle.std.specs.List.{list_all, list_any}
use Rattle.implib.specs.declared.flavor.Flavor.{Flavor}
use Rattle.implib.specs.declared.flavor.Flavor.TheVariants.{Gnu, Msvc}
use Rattle.implib.specs.declared.machine.MachineType.{MachineType}
use Rattle.implib.specs.declared.machine.MachineType.TheVariants.{AMD64, ARM64, ARMNT, I386}
use Rattle.implib.specs.Ascii.{at_sign, begins_with, question_mark, underscore}
use Rattle.implib.specs.Import.{Alias, Ask, Name, Ordinal}
use Rattle.implib.specs.Machine.{has_leading_underscore}
use Rattle.implib_read.specs.Classes.{Class, AnImport, AnAlias, Descriptor, NullDescriptor}
use Rattle.implib_read.specs.Classes.{NullThunk, Head, Tail, DelayImport, Other, NotUnderstood}
use Rattle.implib_read.specs.Classes.{Imported, MemberRead}
use Rattle.implib_read.specs.declared.import.ImportKind.{ImportKind}
use Rattle.implib_read.specs.declared.import.ImportKind.TheVariants.{Code, CodeOrConst, Const, Data}
use Rattle.implib_read.specs.declared.import.ImportKind.TheVariants.{Delayed}
use Rattle.implib_rules.specs.Linked.{NamingView, keeps_word}
use Rattle.implib_rules.specs.Options.{LibraryOptionsView}
use Rattle.implib_compare.specs.Facts.{tells_constants}
use Rattle.implib_compare.specs.DllCheck.Imports.{is_of_data}
use Rattle.implib_read.specs.Identity.{dll_of}
use Rattle.implib_read.specs.Symbols.{linked_symbol, without_imp}

-- Words.

-- the byte is a small letter of ASCII
abbrev pub is_small_letter : ℕ → Bool
is_small_letter b = nat_le 0x61 b && nat_le b 0x7A

-- the byte is a capital letter of ASCII or a digit
abbrev pub is_capital_or_digit : ℕ → Bool
is_capital_or_digit b = (nat_le 0x41 b && nat_le b 0x5A) || (nat_le 0x30 b && nat_le b 0x39)

-- the byte is one of `_ $ ? @ .`
abbrev pub is_name_sign : ℕ → Bool
is_name_sign b = b == 0x5F || (b == 0x24 || (b == 0x3F || (b == 0x40 || b == 0x2E)))

-- the byte may be in a name without quotes
abbrev pub is_name_byte : ℕ → Bool
is_name_byte b = is_small_letter b || (is_capital_or_digit b || is_name_sign b)

-- Whether a name is written without quotes: it is of these bytes, does not begin with `@` as an
-- ordinal does, and has a small letter, so it is no keyword of any tool.
abbrev pub is_plain_name : List ℕ → Bool
is_plain_name name =
    list_all is_name_byte name && (list_any is_small_letter name && not (begins_with at_sign name))

-- a name as it is written: in quotes, unless it needs none
abbrev pub name_text : List ℕ → List ℕ
name_text name = if is_plain_name name then name else 34 ∷ (name ++ 34 ∷ [])

-- whether a symbol is that of an address
abbrev pub is_address : List ℕ → Bool
is_address symbol = bytes_eq (take 6 symbol) (codes "__imp_")

-- a symbol of I386 without the underscore of C's names, unless it is a word as it is
abbrev pub without_underscore : NamingView → List ℕ → List ℕ
without_underscore naming [] = []
without_underscore naming (b ∷ rest) =
    if b == underscore && not (keeps_word naming rest) then rest else b ∷ rest

-- The word that names a symbol, where one does. For example, on I386 that of `_f@8` is `f@8`, and
-- that of `@f@8` itself.
abbrev pub word_of_symbol : MachineType → NamingView → List ℕ → List ℕ
word_of_symbol machine naming symbol =
    if has_leading_underscore machine && not naming.is_plain then without_underscore naming symbol
    else symbol

-- Lines.

-- the hint as the ordinal of an export by name, which an import library has it by, where that is
-- asked for
abbrev pub hint_ordinal : Bool → ℕ → List ℕ
hint_ordinal hints hint = if hints && not (hint == 0) then codes " @" ++ decimal hint else []

-- a name that is asked for, unless it is the word
abbrev pub other_text : List ℕ → List ℕ → List ℕ
other_text word name = if bytes_eq name word then [] else codes " == " ++ name_text name

-- what is asked for, unless it is the word, and the hint where it is an ordinal
abbrev pub asked_text : Bool → List ℕ → Ask → List ℕ
asked_text hints word (Ordinal ordinal) = codes " @" ++ (decimal ordinal ++ codes " NONAME")
asked_text hints word (Name name hint) =
    other_text word name ++ hint_ordinal hints hint

-- what an import is of; no text says that one is delayed
abbrev pub kind_text : ImportKind → List ℕ
kind_text Code = []
kind_text Data = codes " DATA"
kind_text Const = codes " CONSTANT"
kind_text CodeOrConst = []
kind_text Delayed = []

-- the hint, as a comment, where it is no ordinal
abbrev pub hint_text : Bool → Ask → List ℕ
hint_text hints (Ordinal ordinal) = []
hint_text hints (Name name hint) =
    if hints || hint == 0 then [] else codes " ; hint " ++ decimal hint

-- an import by its word
abbrev pub export_text : Bool → List ℕ → Imported → List ℕ
export_text hints word i =
    codes "    " ++ (name_text word
    ++ (asked_text hints word i.imports.ask
    ++ (kind_text i.kind ++ (hint_text hints i.imports.ask ++ 10 ∷ []))))

-- whether a symbol is the name that is asked for behind this byte
abbrev pub is_behind : ℕ → List ℕ → Ask → Bool
is_behind first symbol (Ordinal ordinal) = false
is_behind first symbol (Name name hint) = bytes_eq symbol (first ∷ name)

-- whether an import is one that aliases lead to: the name that it asks for stands in its symbol
-- behind a question mark, or behind an `@` where it is of data
abbrev pub is_of_aliases : Imported → Bool
is_of_aliases i =
    is_behind (if is_of_data i.kind then at_sign else question_mark)
    (linked_symbol i.imports.declared) i.imports.ask

-- an import, unless the aliases that lead to it say it
abbrev pub import_text : Bool → MachineType → NamingView → Imported → List ℕ
import_text hints machine naming i =
    if is_of_aliases i then []
    else export_text hints (word_of_symbol machine naming (linked_symbol i.imports.declared)) i

-- what an alias's line says of the symbol that it is weak for
abbrev pub word_of_target : MachineType → NamingView → List ℕ → List ℕ
word_of_target machine naming symbol =
    if begins_with question_mark symbol || begins_with at_sign symbol then drop 1 symbol
    else word_of_symbol machine naming symbol

-- an alias of one symbol for another, and what it is of
abbrev pub weak_text : MachineType → NamingView → List ℕ → List ℕ → List ℕ → List ℕ
weak_text machine naming weak target of =
    codes "    " ++ (name_text (word_of_symbol machine naming weak)
    ++ (codes " == " ++ (name_text (word_of_target machine naming target) ++ (of ++ 10 ∷ []))))

-- An alias, given the weak symbol of the member before it. That of an address has no line of its
-- own behind that of the symbol, and else it is of data.
abbrev pub alias_text : MachineType → NamingView → List ℕ → Alias → List ℕ
alias_text machine naming before a =
    if not (is_address a.weak) then weak_text machine naming a.weak a.target []
    else if bytes_eq before (without_imp a.weak) then []
    else weak_text machine naming (without_imp a.weak) (without_imp a.target) (codes " DATA")

-- a member, given the weak symbol of the one before it
abbrev pub member_text : Bool → MachineType → NamingView → List ℕ → Class → List ℕ
member_text hints machine naming before (AnImport i) = import_text hints machine naming i
member_text hints machine naming before (AnAlias a) = alias_text machine naming before a
member_text hints machine naming before Descriptor = []
member_text hints machine naming before NullDescriptor = []
member_text hints machine naming before NullThunk = []
member_text hints machine naming before Head = []
member_text hints machine naming before Tail = []
member_text hints machine naming before DelayImport = []
member_text hints machine naming before Other = []
member_text hints machine naming before NotUnderstood = []

-- the weak symbol of a member, if it is an alias
abbrev pub weak_of : Class → List ℕ
weak_of (AnImport i) = []
weak_of (AnAlias a) = a.weak
weak_of Descriptor = []
weak_of NullDescriptor = []
weak_of NullThunk = []
weak_of Head = []
weak_of Tail = []
weak_of DelayImport = []
weak_of Other = []
weak_of NotUnderstood = []

-- members, given the weak symbol of the one before them
abbrev pub members_text : Bool → MachineType → NamingView → List ℕ → List MemberRead → List ℕ
members_text hints machine naming before [] = []
members_text hints machine naming before (m ∷ members) =
    member_text hints machine naming before m.class
    ++ members_text hints machine naming (weak_of m.class) members

-- The head.

-- a machine's name for `implib_dlltool -m`
abbrev pub machine_text : MachineType → List ℕ
machine_text I386 = codes "i386"
machine_text AMD64 = codes "i386:x86-64"
machine_text ARMNT = codes "arm"
machine_text ARM64 = codes "arm64"

-- a flavour's name
abbrev pub flavor_text : Flavor → List ℕ
flavor_text Msvc = codes "msvc"
flavor_text Gnu = codes "gnu"

-- the option that says how names are read
abbrev pub naming_text : NamingView → List ℕ
naming_text naming = if naming.is_plain then codes " --no-leading-underscore" else []

-- that CONSTANT is not told from code
abbrev pub untold_text : Bool → List ℕ
untold_text told = if told then [] else codes "; CONSTANT is not told from code\n"

-- the DLL of the first import
abbrev pub first_dll : List MemberRead → List ℕ
first_dll [] = []
first_dll (m ∷ members) = unwrap_or (dll_of m.class) (first_dll members)

-- what stands before the exports: the options under which the text means the library, and the DLL
abbrev pub head_text : LibraryOptionsView → Bool → List ℕ → List ℕ
head_text options told dll =
    codes "; -m " ++ (machine_text options.machine
    ++ (codes " --flavor " ++ (flavor_text options.flavor ++ (naming_text options.naming
    ++ (10 ∷ (untold_text told ++ (codes "LIBRARY " ++ (name_text dll ++ codes "\nEXPORTS\n"))))))))

-- the definition of a library, with its hints as ordinals or as comments
abbrev pub definition_text : Bool → LibraryOptionsView → List MemberRead → List ℕ
definition_text hints options members =
    head_text options (tells_constants members) (first_dll members)
    ++ members_text hints options.machine options.naming [] members
