-- Archive search: which members of an archive a linker takes for the names that are undefined. The
-- archive lists symbols for each member; what a member leaves to others is read in its bytes.
-- Nothing in the search knows who wrote the members.
use Rattle.std.specs.Prelude.{◌≡◌, ℕ, ◌+◌, Bool, false, List, [], ◌∷◌, bytes_eq, Option, Some, None}
use Rattle.std.specs.Prelude.{if◌then◌else◌, ◌++◌, not, ◌&&◌, ◌==◌, reverse, true, zero, suc}
use Rattle.std.specs.Prelude.{length, map, slice_get}
use Rattle.std.specs.List.{filter_map, flat_map, list_any, Contains, filter, AllByRecursion}
use Rattle.std.specs.List.{IsDistinct}
use Rattle.implib.specs.declared.machine.MachineType.{MachineType}
use Rattle.implib.specs.Definition.{DefinitionView, ExportView}
use Rattle.implib.specs.Members.Gnu.{archive_symbols, head_symbol, iname_symbol}
use Rattle.implib.specs.Import.{public_exports, imp_symbol, is_alias}
use Rattle.implib.specs.Link.Linked.{undefined_name}
use Rattle.implib.specs.Members.MemberSpec.{MemberView}
use Rattle.implib.specs.Formats.Object.{Object, ASymbol, Auxiliary, Entry, object_in}
use Rattle.implib.specs.Renaming.{renamed}
use Rattle.implib_link.specs.Flavors.Program.{claimed_names, Ending, FlavorInput, IsProgramOf}
use Rattle.implib_link.specs.Flavors.Program.{claimed_name}
use Rattle.implib.specs.declared.flavor.Flavor.TheVariants.{Gnu}
use Rattle.implib.specs.Formats.Constants.{class_weak_external, class_external}
use Rattle.implib.specs.Link.LinkedMembers.{LinkInput}
use Rattle.implib.specs.Members.Members.{AreMembersOf}
use Rattle.implib.specs.LibraryName.{linked_name}
use Rattle.implib.specs.Link.Image.{image_of}
use Rattle.implib.specs.Link.Placement.{Bases, placed_from}
use Rattle.implib.specs.Link.Resolution.{definitions_of}
use Rattle.std.specs.Option.{option_map}

-- whether the archive lists a name for a member
abbrev pub is_listed_for : List ℕ → MemberView → Bool
is_listed_for name m = list_any (bytes_eq name) m.symbols

-- the first member of an archive that a name is listed for
abbrev pub first_listed : List MemberView → List ℕ → Option MemberView
first_listed [] name = None
first_listed (m ∷ archive) name = if is_listed_for name m then Some m else first_listed archive name

-- the names that an object leaves to others: those of its undefined external symbols
unfoldable pub undefined_in : Object → List (List ℕ)
undefined_in o = filter_map undefined_name o.entries

-- The objects that a linker reads members as: each by its bytes, or not at all.
abbrev pub objects_as : (List ℕ → Option Object) → List MemberView → List Object
objects_as reads members = filter_map (λ m. reads m.bytes) members

-- the names that members leave to others, by these objects
unfoldable pub left_as : (List ℕ → Option Object) → List MemberView → List (List ℕ)
left_as reads members = flat_map undefined_in (objects_as reads members)

-- the names that they claim
unfoldable pub claimed_as : (List ℕ → Option Object) → List MemberView → List (List ℕ)
claimed_as reads members = flat_map claimed_names (objects_as reads members)

-- whether an export is wanted: one of its symbols is, its name, where it is no data, or `__imp_`
-- and its name
abbrev pub is_wanted : List (List ℕ) → ExportView → Bool
is_wanted wanted e = list_any (λ name. list_any (bytes_eq name) wanted) (archive_symbols e)

-- the numbers of the exports that pass a test, the first one of this number
abbrev pub numbers_passing : (ExportView → Bool) → ℕ → List ExportView → List ℕ
numbers_passing test number [] = []
numbers_passing test number (e ∷ exports) =
    if test e then number ∷ numbers_passing test (number + 1) exports
    else numbers_passing test (number + 1) exports

-- the numbers of a definition's exports that are wanted, which count those that are not private
-- from 0
abbrev pub exports_wanted : DefinitionView → List (List ℕ) → List ℕ
exports_wanted d wanted = numbers_passing (is_wanted wanted) 0 (public_exports (renamed d))

-- no wanted name is one of the two by which only members name each other: the descriptor's and the
-- DLL name's
pub record NamesNoHeadOrTail (machine : MachineType) (dll : List ℕ)
    (wanted : List (List ℕ)) : Type 0 where
  pub head : list_any (bytes_eq (head_symbol machine dll)) wanted ≡ false
  pub name : list_any (bytes_eq (iname_symbol machine dll)) wanted ≡ false

-- Closed programs: objects that are given, and what a linker takes for them of an archive of
-- libraries. Nothing is wanted but what the objects leave unresolved.

-- the names that objects leave to others, and those that they claim
unfoldable pub references_of : List Object → List (List ℕ)
references_of objects = flat_map undefined_in objects

unfoldable pub claims_of : List Object → List (List ℕ)
claims_of objects = flat_map claimed_names objects

-- the names that objects leave unresolved: one of them leaves a name to others, and none claims it
abbrev pub unresolved : List Object → List (List ℕ)
unresolved objects =
    filter (λ name. not (list_any (bytes_eq name) (claims_of objects))) (references_of objects)

-- An unresolved name pulls in a member: the given objects and the members that are taken leave it
-- unresolved, and the first member that it is listed for is this one, which is not taken.
pub record PullsIntoAs (reads : List ℕ → Option Object) (archive : List MemberView)
    (own : List Object) (taken : List MemberView) (name : List ℕ) (m : MemberView) : Type 0 where
  pub named : Contains (unresolved (own ++ objects_as reads taken)) name
  pub listed : first_listed archive name ≡ Some m
  pub new : Contains taken m → ⊥

-- Members are taken one after another, the last one first: each is pulled in by some name that is
-- unresolved after those before it. The linker may take up the unresolved names in any order.
unfoldable pub AreTakenIntoAs : (List ℕ → Option Object) → List MemberView → List Object →
    List MemberView → Type 0
AreTakenIntoAs reads archive own [] = Unit {0}
AreTakenIntoAs reads archive own (m ∷ earlier) =
    ((name : List ℕ) × PullsIntoAs reads archive own earlier name m)
    × AreTakenIntoAs reads archive own earlier

-- What a linker takes of an archive for given objects: it takes members in turn until no unresolved
-- name pulls in another.
pub record TakesIntoAs (reads : List ℕ → Option Object) (archive : List MemberView)
    (own : List Object) (taken : List MemberView) : Type 0 where
  pub in_turn : AreTakenIntoAs reads archive own taken
  pub ended : (name : List ℕ) (m : MemberView) → PullsIntoAs reads archive own taken name m → ⊥

-- the symbols that an archive lists
abbrev pub listed_in : List MemberView → List (List ℕ)
listed_in archive = flat_map (λ m. m.symbols) archive

-- Archive search where exports have aliases, in an archive of the members of several libraries. An
-- alias is a weak external: a member that a linker takes for the weak name, and that leaves the
-- alias's target to others.

-- a definition and its members
pub record Library : Type 0 where
  pub definition : DefinitionView
  pub members : List MemberView

-- they are its members for GNU's linker
abbrev pub IsLibrary : MachineType → Library → Type 0
IsLibrary machine l = AreMembersOf l.definition machine Gnu l.members

-- an archive of the members of libraries, one library after another
unfoldable pub archive_of : List Library → List MemberView
archive_of libraries = flat_map (λ l. l.members) libraries

-- the exports that a library's members are numbered by
abbrev pub exports_of : Library → List ExportView
exports_of l = public_exports (renamed l.definition)

-- the symbols that an archive lists for the members of an export, each once: `__imp_` with its
-- name, and its name, where it is no data or has an alias
abbrev pub symbols_of_export : ExportView → List (List ℕ)
symbols_of_export e =
    if e.is_data && not (is_alias e.alias_target e.name) then imp_symbol e.name ∷ []
    else e.name ∷ imp_symbol e.name ∷ []

-- the symbols that an archive lists for a library's members, each once, in the archive's order
unfoldable pub symbols_of_library : MachineType → Library → List (List ℕ)
symbols_of_library machine l =
    iname_symbol machine (linked_name l.definition)
    ∷ head_symbol machine (linked_name l.definition)
    ∷ flat_map symbols_of_export (reverse (exports_of l))

-- whether an entry is a weak external
abbrev pub is_weak_entry : Entry → Bool
is_weak_entry (Auxiliary bytes) = false
is_weak_entry (ASymbol s) = s.class == class_weak_external

-- whether an object has one
abbrev pub has_weak : Option Object → Bool
has_weak None = false
has_weak (Some o) = list_any is_weak_entry o.entries

-- whether a member does, read in its bytes
unfoldable pub is_weak : MemberView → Bool
is_weak m = has_weak (object_in m.bytes)

-- what is linked of a library: nothing, where no export is wanted
abbrev pub input_if_any : Library → List ℕ → Option LinkInput
input_if_any l [] = None
input_if_any l (n ∷ chosen) =
    Some (record { definition = l.definition; members = l.members; chosen = n ∷ chosen })

-- what is linked of libraries: of each the exports that are wanted
abbrev pub inputs_wanted : List Library → List (List ℕ) → List LinkInput
inputs_wanted libraries wanted =
    filter_map (λ l. input_if_any l (exports_wanted l.definition wanted)) libraries

-- an archive of libraries whose listed symbols are distinct, but for those that one export's
-- members share
pub record IsArchive (machine : MachineType) (libraries : List Library) : Type 0 where
  pub made : AllByRecursion (IsLibrary machine) libraries
  pub distinct : IsDistinct bytes_eq (flat_map (symbols_of_library machine) libraries)

-- no name is one by which only members name each other, in any library
abbrev pub NamesNoHeadOrTailOf : MachineType → List Library → List (List ℕ) → Type 0
NamesNoHeadOrTailOf machine libraries names =
    AllByRecursion (λ l. NamesNoHeadOrTail machine (linked_name l.definition) names) libraries

-- A weak external of an export that is data and whose bare name is among these. For every other
-- name of an export, its own member is the first.
pub record IsWeakData (libraries : List Library) (names : List (List ℕ))
    (m : MemberView) : Type 0 where
  pub library : Library
  pub held : Contains libraries library
  pub export : ExportView
  pub among : Contains (exports_of library) export
  pub data_alone : export.is_data ≡ true
  pub named : Contains names export.name
  pub listed : m.symbols ≡ export.name ∷ []

-- Archive search as GNU `ld` does it (binutils, `_bfd_generic_link_add_archive_symbols`): it sweeps
-- the archive's index, entry after entry, and takes the member of an entry whose name is unresolved
-- then. The index has the members in their order (PE/COFF specification, "First Linker Member": the
-- offsets ascend).
--
-- So it does with `--disable-auto-import`. By default (`pei386_auto_import` there) it looks up X
-- for an entry `__imp_X` that no object so far names: where X is unresolved, it takes the member,
-- and where X is defined, it passes the entry over from then on. Command lines where this makes no
-- difference are those of `ImportsByName`.

-- an entry of an archive's index: a symbol, and the number of the member that it is listed for
pub record IndexEntry : Type 0 where
  pub name : List ℕ
  pub number : ℕ

-- the entries of the member of a number, if there is one
abbrev pub entries_at : ℕ → Option MemberView → List IndexEntry
entries_at number None = []
entries_at number (Some m) = map (λ name. record { name = name; number = number }) m.symbols

-- so many numbers, from one on
abbrev pub numbers_from : ℕ → ℕ → List ℕ
numbers_from zero first = []
numbers_from (suc count) first = first ∷ numbers_from count (suc first)

-- the index of the members of these numbers
abbrev pub index_at : List MemberView → List ℕ → List IndexEntry
index_at archive numbers = flat_map (λ number. entries_at number (slice_get archive number)) numbers

-- the index of an archive
abbrev pub index_of : List MemberView → List IndexEntry
index_of archive = index_at archive (numbers_from (length archive) 0)

-- the members of these numbers
abbrev pub members_at : List MemberView → List ℕ → List MemberView
members_at archive numbers = filter_map (slice_get archive) numbers

-- whether the given objects and the members of these numbers leave a name unresolved
abbrev pub is_left : (List ℕ → Option Object) → List MemberView → List Object → List ℕ → List ℕ →
    Bool
is_left reads archive own numbers name =
    list_any (bytes_eq name) (unresolved (own ++ objects_as reads (members_at archive numbers)))

-- whether an entry's member is taken: its name is left unresolved, and it is not taken yet
abbrev pub is_due : (List ℕ → Option Object) → List MemberView → List Object → List ℕ → IndexEntry →
    Bool
is_due reads archive own numbers e =
    is_left reads archive own numbers e.name
    && not (list_any (λ number. number == e.number) numbers)

-- The numbers of the members that are taken after a sweep over entries, the last one first. What a
-- member leaves unresolved counts from the next entry on.
unfoldable pub swept : (List ℕ → Option Object) → List MemberView → List Object → List IndexEntry →
    List ℕ → List ℕ
swept reads archive own [] numbers = numbers
swept reads archive own (e ∷ index) numbers =
    if is_due reads archive own numbers e
    then swept reads archive own index (e.number ∷ numbers)
    else swept reads archive own index numbers

-- those after some sweeps over entries
unfoldable pub sweeps : (List ℕ → Option Object) → List MemberView → List Object → List IndexEntry →
    ℕ → List ℕ → List ℕ
sweeps reads archive own index zero numbers = numbers
sweeps reads archive own index (suc count) numbers =
    sweeps reads archive own index count (swept reads archive own index numbers)

-- What GNU `ld` takes of an archive for given objects: it sweeps the index so often (`taken`),
-- until a sweep takes nothing (`ended`).
pub record SweepsTake (reads : List ℕ → Option Object) (archive : List MemberView)
    (own : List Object) (count : ℕ) (numbers : List ℕ) : Type 0 where
  pub taken : sweeps reads archive own (index_of archive) count [] ≡ numbers
  pub ended : swept reads archive own (index_of archive) numbers ≡ numbers

-- Names that a linker wants beside those that objects leave to others: by `-u` and `/include:` on
-- its command line, by `/include` in a section `.drectve`, or as a start symbol. Linkers enter such
-- a name as an undefined symbol before they search (binutils, `ldlang_add_undef`; lld,
-- `addUndefined`); which names are entered so is for the caller to say, since linkers differ
-- (docs/LINKERS.md).

-- an undefined external symbol of a name
abbrev pub undefined_symbol : List ℕ → Entry
undefined_symbol name =
    ASymbol (record { name = name; value = 0; section = 0; kind = 0; class = class_external })

-- A list of names as an object that leaves them to others, and has nothing else: no section, and no
-- definition.
abbrev pub wanting : List (List ℕ) → Object
wanting names = record {
  machine = 0;
  time = 0;
  optional_header_size = 0;
  characteristics = 0;
  sections = [];
  entries = map undefined_symbol names;
}

-- the names of a list that objects do not claim
abbrev pub unclaimed : List Object → List (List ℕ) → List (List ℕ)
unclaimed own names = filter (λ name. not (list_any (bytes_eq name) (claims_of own))) names

-- Names beside given objects are wanted as those that the objects leave unresolved, but for those
-- that they claim.
abbrev pub NamesAreWanted : Type 0
NamesAreWanted = (names : List (List ℕ)) (own : List Object)
    → unresolved (wanting names ∷ own) ≡ unclaimed own names ++ unresolved own

-- And nothing is linked for the list: what is linked with it has the same image, the same
-- definitions of each name, and is a program just where it is one without it.
abbrev pub ListsAddNothing : Type 0
ListsAddNothing = (names : List (List ℕ)) (machine : MachineType) (bases : Bases)
    (objects : List Object)
    → (image_of machine bases (placed_from bases (wanting names ∷ objects))
    ≡ image_of machine bases (placed_from bases objects))
    × (((name : List ℕ) → definitions_of name (placed_from bases (wanting names ∷ objects))
    ≡ definitions_of name (placed_from bases objects))
    × ((ending : Ending) (inputs : List FlavorInput)
    → (IsProgramOf machine ending bases inputs (wanting names ∷ objects)
    → IsProgramOf machine ending bases inputs objects)
    × (IsProgramOf machine ending bases inputs objects
    → IsProgramOf machine ending bases inputs (wanting names ∷ objects))))

-- How GNU `ld` resolves names beside weak externals: a plain reference by none of them. To its
-- search an object is what it is without its weak externals; one that is taken still leads where
-- objects refer to it as weak. lld resolves by them (docs/LINKERS.md, `weak-alias`).

-- an object without its weak externals
unfoldable pub without_weak : Object → Object
without_weak o = record o { entries = filter (λ e. not (is_weak_entry e)) o.entries }

-- the names of its weak externals
unfoldable pub weak_names : Object → List (List ℕ)
weak_names o = filter_map claimed_name (filter is_weak_entry o.entries)

-- members read without their weak externals
abbrev pub plainly : (List ℕ → Option Object) → List ℕ → Option Object
plainly reads bytes = option_map without_weak (reads bytes)

-- what a linker takes for given objects that resolves no name by a weak external
abbrev pub TakesPlainly : (List ℕ → Option Object) → List MemberView → List Object →
    List MemberView → Type 0
TakesPlainly reads archive own taken =
    TakesIntoAs (plainly reads) archive (map without_weak own) taken

-- the names that are undefined references to it then
abbrev pub left_plainly : (List ℕ → Option Object) → List Object → List MemberView →
    List (List ℕ)
left_plainly reads own taken =
    unresolved (map without_weak own ++ objects_as (plainly reads) taken)

-- objects have no weak externals
abbrev pub HaveNoWeak : List Object → Type 0
HaveNoWeak objects = AllByRecursion (λ o. list_any is_weak_entry o.entries ≡ false) objects

-- whatever gives a name among objects is a weak external
abbrev pub AreOnlyWeak : List Object → List ℕ → Type 0
AreOnlyWeak objects name =
    (o : Object) (e : Entry) → Contains objects o → Contains o.entries e →
    claimed_name e ≡ Some name → is_weak_entry e ≡ true

-- the name of a weak external of a member that is taken
abbrev pub IsWeakAmong : (List ℕ → Option Object) → List MemberView → List ℕ → Type 0
IsWeakAmong reads taken name =
    (m : MemberView) × (o : Object) × Contains taken m × (reads m.bytes ≡ Some o)
    × Contains (weak_names o) name

-- each weak external of a member that is taken leads to this member: it is the first that the
-- archive lists for the name
abbrev pub WeakAreFirst : (List ℕ → Option Object) → List MemberView → List MemberView → Type 0
WeakAreFirst reads archive taken =
    (m : MemberView) (o : Object) (name : List ℕ) → Contains taken m → reads m.bytes ≡ Some o →
    Contains (weak_names o) name → first_listed archive name ≡ Some m
