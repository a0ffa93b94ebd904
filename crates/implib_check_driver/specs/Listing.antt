-- The answers to the calls that list a library, name its DLLs, or say whether it works
-- (docs/CHECK.md).
use Rattle.std.specs.Prelude.{ℕ, ◌==◌, Bool, true, false, ◌&&◌, List, [], ◌∷◌, ◌++◌, Option}
use Rattle.std.specs.Prelude.{Some, None, codes, if◌then◌else◌, length, map, nat_lt}
use Rattle.std.specs.List.{flat_map}
use Rattle.std.specs.Option.{option_map_or}
use Rattle.implib.specs.declared.flavor.Flavor.{Flavor}
use Rattle.implib.specs.declared.flavor.Flavor.TheVariants.{Gnu, Msvc}
use Rattle.implib_compare.specs.Comparison.{has_unread, is_other, is_unread}
use Rattle.implib_compare.specs.Flavors.{flavor_of}
use Rattle.implib_compare.specs.Working.{ec_found, first_found, has_one, second_found, working_of}
use Rattle.implib_compare.specs.Working.{working_status}
use Rattle.implib_compare.specs.declared.compare.Verdict.{Verdict}
use Rattle.implib_compare.specs.declared.compare.Verdict.TheVariants.{Different, NotDecided, Same}
use Rattle.implib_compare.specs.declared.working.Piece.{Piece}
use Rattle.implib_compare.specs.declared.working.Piece.TheVariants as piece
use Rattle.implib_read.specs.Archives.{Archive}
use Rattle.implib_read.specs.Classes.{Class, AnImport, AnAlias, Descriptor, NullDescriptor}
use Rattle.implib_read.specs.Classes.{NullThunk, Head, Tail, DelayImport, Other, NotUnderstood}
use Rattle.implib_read.specs.Classes.{MemberRead}
use Rattle.implib_read.specs.Cutting.{cut_apart}
use Rattle.implib_read.specs.Identity.{dlls_of}
use Rattle.implib_read.specs.Indexes.{IndexEntry}
use Rattle.implib_read.specs.Symbols.{linked_symbol}
use Rattle.implib_check_driver.specs.Answer.{AnswerView, by_library, line_about, lines}
use Rattle.implib_check_driver.specs.Json.{CutApart, FaultOf, FaultView, FindingView, InLibrary}
use Rattle.implib_check_driver.specs.Json.{Listed, MisleadingEntry, NoIndex, NotOnePart}
use Rattle.implib_check_driver.specs.Json.{SeveralDlls, SideView, UnreadableIndex}
use Rattle.implib_check_driver.specs.Status.{identity_status, list_status}
use Rattle.implib_check_driver.specs.Text.{line_in, place, shown}

-- whether a member is an import or an alias
abbrev pub is_listed : Class → Bool
is_listed (AnImport i) = true
is_listed (AnAlias a) = true
is_listed Descriptor = false
is_listed NullDescriptor = false
is_listed NullThunk = false
is_listed Head = false
is_listed Tail = false
is_listed DelayImport = false
is_listed Other = false
is_listed NotUnderstood = false

-- the symbol of an import or an alias
abbrev pub symbol_of : Class → List ℕ
symbol_of (AnImport i) = linked_symbol i.imports.declared
symbol_of (AnAlias a) = a.weak
symbol_of Descriptor = []
symbol_of NullDescriptor = []
symbol_of NullThunk = []
symbol_of Head = []
symbol_of Tail = []
symbol_of DelayImport = []
symbol_of Other = []
symbol_of NotUnderstood = []

-- a member of the library of a file
abbrev pub library_side : List ℕ → MemberRead → SideView
library_side path m = record { site = InLibrary path; symbol = symbol_of m.class; member = m }

-- what is listed of a member
abbrev pub listed_of : List ℕ → MemberRead → List FindingView
listed_of path m = if is_listed m.class then Listed (library_side path m) ∷ [] else []

-- the imports and aliases of a library
abbrev pub listed : List ℕ → List MemberRead → List FindingView
listed path members = flat_map (listed_of path) members

-- what is said of a member that is not read
abbrev pub unread_text : Class → List ℕ
unread_text DelayImport = codes "part of delayed imports, and not followed"
unread_text _ = codes "not understood"

-- what is said of a member that leaves an answer open; with others, of other objects too
abbrev pub doubt_of : Bool → Class → Option (List ℕ)
doubt_of others class =
    if is_unread class then Some (unread_text class)
    else if others && is_other class then Some (codes "another object")
    else None

-- the line about such a member
abbrev pub doubt_line : Bool → List ℕ → MemberRead → List ℕ
doubt_line others path m =
    option_map_or (line_about (place (InLibrary path) m)) (doubt_of others m.class) []

-- the lines about such members
abbrev pub doubts : Bool → List ℕ → List MemberRead → List ℕ
doubts others path members = flat_map (doubt_line others path) members

-- The list of a library.
abbrev pub list_of : Bool → List ℕ → List MemberRead → AnswerView
list_of json path members = record {
  status = list_status (has_unread members);
  out = lines json (listed path members);
  err = doubts false path members;
}

abbrev pub list_answer : Bool → List ℕ → List ℕ → AnswerView
list_answer json path bytes = by_library (λ a. list_of json path) path bytes

-- the line of the name of a DLL
abbrev pub name_line : List ℕ → List ℕ
name_line name = shown name ++ codes "\n"

-- what is said of a number of names, of which one alone may be asked for
abbrev pub names_fault : Bool → ℕ → Option (List ℕ)
names_fault strict count =
    if count == 0 then Some (codes "imports from no DLL")
    else if strict && nat_lt 1 count then Some (codes "imports from two or more DLLs")
    else None

-- The names of a library's DLLs: where there is none, or one alone is asked for and there are
-- several, that is said in their place.
abbrev pub identified : Bool → List ℕ → List MemberRead → AnswerView
identified strict path members = record {
  status = identity_status (has_unread members) (length (dlls_of members)) strict;
  out = option_map_or (λ _. []) (names_fault strict (length (dlls_of members)))
      (flat_map name_line (dlls_of members));
  err = doubts false path members
      ++ option_map_or (line_about path) (names_fault strict (length (dlls_of members))) [];
}

abbrev pub identify_answer : Bool → List ℕ → List ℕ → AnswerView
identify_answer strict path bytes = by_library (λ a. identified strict path) path bytes

-- Why a library does not work, or why that is not decided.

-- what is wrong with an index of a number: it cannot be read, or entries mislead
abbrev pub misled_faults : ℕ → Option (List IndexEntry) → List FaultView
misled_faults number None = UnreadableIndex number ∷ []
misled_faults number (Some entries) = map (MisleadingEntry number) entries

-- what is wrong with the indexes
abbrev pub first_faults : Archive → List FaultView
first_faults a = option_map_or (misled_faults 1) (first_found a) (NoIndex ∷ [])

abbrev pub second_faults : Archive → List FaultView
second_faults a = option_map_or (misled_faults 2) (second_found a) []

abbrev pub ec_faults : Archive → List FaultView
ec_faults a = option_map_or (misled_faults 3) (ec_found a) []

-- the short imports by which linkers ask for different names
abbrev pub cut_faults : Archive → List FaultView
cut_faults a = map (λ c. CutApart c.0 c.1) (cut_apart a.members)

-- a part of import tables that is not there once
abbrev pub piece_faults : List MemberRead → Piece → List FaultView
piece_faults members part = if has_one part members then [] else NotOnePart part ∷ []

-- the parts of the import tables for a linker, in order
abbrev pub pieces_of : Flavor → List Piece
pieces_of Msvc = piece.OfDescriptor ∷ piece.OfNullDescriptor ∷ piece.OfNullThunk ∷ []
pieces_of Gnu = piece.OfHead ∷ piece.OfTail ∷ []

-- what is wrong with the import tables of a number of DLLs
abbrev pub table_faults : ℕ → List MemberRead → List FaultView
table_faults dlls members =
    if dlls == 1 then flat_map (piece_faults members) (pieces_of (flavor_of members))
    else if nat_lt 1 dlls then SeveralDlls ∷ []
    else []

-- the lines of faults of the library of a file
abbrev pub fault_lines : Bool → List ℕ → List FaultView → List ℕ
fault_lines json path faults = flat_map (λ f. line_in json (FaultOf path f)) faults

-- why a library does not work
unfoldable pub broken : Bool → List ℕ → Archive → List MemberRead → List ℕ
broken json path a members =
    fault_lines json path (first_faults a) ++ (fault_lines json path (second_faults a)
    ++ (fault_lines json path (ec_faults a) ++ (fault_lines json path (cut_faults a)
    ++ fault_lines json path (table_faults (length (dlls_of members)) members))))

-- the same of a library that is the same as another; of any other nothing
abbrev pub broken_if_same : Verdict → Bool → List ℕ → Archive → List MemberRead → List ℕ
broken_if_same Same json path a members = broken json path a members
broken_if_same Different json path a members = []
broken_if_same NotDecided json path a members = []

abbrev pub works_of : Bool → List ℕ → Archive → List MemberRead → AnswerView
works_of json path a members = record {
  status = working_status (working_of a members);
  out = broken json path a members;
  err = doubts false path members;
}

abbrev pub works_answer : Bool → List ℕ → List ℕ → AnswerView
works_answer json path bytes = by_library (works_of json path) path bytes
