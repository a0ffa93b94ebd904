-- Archive search of the members of libraries, each for Microsoft's linker or for GNU's. The archive
-- lists symbols for each member; what a member leaves to others is read in what a linker takes it
-- for.
use Rattle.implib_link.specs.Flavors.Expansion.{expanded_in, descriptor_symbol_by_name}
use Rattle.std.specs.Prelude.{◌≡◌, ℕ, Bool, false, List, bytes_eq, ◌+◌, ◌≤◌, length, unwrap_or}
use Rattle.std.specs.Prelude.{◌&&◌, map, [], ◌∷◌, ◌++◌, not, true, Option, Some, None, ◌⊎◌}
use Rattle.std.specs.Prelude.{if◌then◌else◌, ◌*◌, ◌%◌, IsPermutation, slice_get}
use Rattle.std.specs.List.{list_any, AllByRecursion, sum_by, filter, flat_map, Contains, IsDistinct}
use Rattle.std.specs.List.{filter_map}
use Rattle.implib.specs.declared.machine.MachineType.{MachineType}
use Rattle.implib.specs.Definition.{ExportView}
use Rattle.implib.specs.Members.MemberSpec.{MemberView}
use Rattle.implib.specs.Members.Msvc.{short_import_symbols, short_import_symbol}
use Rattle.implib.specs.Members.MsvcObjects.{descriptor_symbol, null_descriptor_symbol}
use Rattle.implib.specs.Members.MsvcObjects.{null_thunk_symbol}
use Rattle.implib_link.specs.Search.Search.{left_as, Library, exports_of, has_weak, IsArchive}
use Rattle.implib_link.specs.Search.Search.{IsWeakData, NamesNoHeadOrTailOf, archive_of}
use Rattle.implib_link.specs.Search.Search.{input_if_any, inputs_wanted, symbols_of_library}
use Rattle.implib_link.specs.Search.Search.{is_wanted, numbers_passing, exports_wanted, TakesIntoAs}
use Rattle.implib_link.specs.Search.Search.{unresolved, listed_in}
use Rattle.implib.specs.Link.Image.{Range, range_end, IsAdmissible}
use Rattle.implib.specs.Import.{is_alias, imp_symbol}
use Rattle.implib.specs.Members.Gnu.{archive_symbols, head_symbol, iname_symbol}
use Rattle.implib.specs.LibraryName.{linked_name, linked_dll}
use Rattle.implib.specs.declared.flavor.Flavor.TheVariants.{Msvc, Gnu}
use Rattle.implib.specs.Members.Members.{AreMembersOf}
use Rattle.implib_link.specs.Flavors.Program.{FlavorInput, all_members, null_member, AreEnded}
use Rattle.implib_link.specs.Flavors.Program.{Ending, IsProgramOf, ProgramLinks, WhereMember}
use Rattle.implib_link.specs.Flavors.Program.{exports_chosen, gnu_input, objects_taken, symbol_in}
use Rattle.implib_link.specs.Flavors.Program.{thunks_of, ClaimsNone, has_tables, HaveSame, OfLinker}
use Rattle.implib_link.specs.Flavors.Program.{OfMember, null_descriptor, group_end, packed}
use Rattle.implib.specs.Formats.Object.{Object}
use Rattle.std.specs.Option.{option_map}
use Rattle.implib.specs.declared.flavor.Flavor.{Flavor}
use Rattle.implib.specs.Link.Linked.{IsDefinedOnce}
use Rattle.implib.specs.Link.LinkedMembers.{all_linked}
use Rattle.implib.specs.Link.Placement.{Bases, Descriptors, Placed, placed_from}
use Rattle.implib.specs.Link.Resolution.{definitions_of}
use Rattle.implib.specs.Members.ImportTables.{thunk_width}

-- The same for a linker for a machine, which reads short imports, too, as what it takes them for:
-- the names that members leave to others.
abbrev pub left_in : MachineType → List MemberView → List (List ℕ)
left_in machine = left_as (expanded_in machine)

-- whether an export is wanted: one of the symbols that its short import is listed for is
abbrev pub is_short_wanted : List (List ℕ) → ExportView → Bool
is_short_wanted wanted e =
    list_any (λ name. list_any (bytes_eq name) wanted) (short_import_symbols e)

-- no wanted name is one of the three by which only members name each other, by the library's name
-- for the linker
pub record NamesNoHeader (dll : List ℕ) (wanted : List (List ℕ)) : Type 0 where
  pub descriptor : list_any (bytes_eq (descriptor_symbol dll)) wanted ≡ false
  pub null_descriptor : list_any (bytes_eq null_descriptor_symbol) wanted ≡ false
  pub null_thunk : list_any (bytes_eq (null_thunk_symbol dll)) wanted ≡ false

-- That there is a closed program: how much room import tables need, by the definitions alone, and
-- what is linked for given objects, packed.

-- What is asked of the objects that are given to a linker with libraries, so that what it takes for
-- them closes the program: of the objects and of the definitions alone, without a search.

-- the symbols by which only members name each other
abbrev pub heads_of : MachineType → List Library → List (List ℕ)
heads_of machine libraries = map (λ l. head_symbol machine (linked_name l.definition)) libraries

abbrev pub tails_of : MachineType → List Library → List (List ℕ)
tails_of machine libraries = map (λ l. iname_symbol machine (linked_name l.definition)) libraries

-- whether an export is data that has an alias: a linker takes its weak external for its bare name
abbrev pub is_data_alias : ExportView → Bool
is_data_alias e = e.is_data && is_alias e.alias_target e.name

-- the targets of such aliases, in all libraries
abbrev pub alias_targets : List Library → List (List ℕ)
alias_targets libraries =
    flat_map (λ l. map (λ e. e.alias_target) (filter is_data_alias (exports_of l))) libraries

-- the symbols of the exports that are wanted by some names
abbrev pub symbols_wanted : List Library → List (List ℕ) → List (List ℕ)
symbols_wanted libraries names =
    flat_map (λ l. flat_map archive_symbols (filter (is_wanted names) (exports_of l))) libraries

-- Archive search of the members of several libraries for Microsoft's linker, some exports with
-- aliases. All libraries have a null descriptor under one symbol, of which the first one is taken.
-- An alias is two weak externals, of the export's symbol and of its address, which are listed
-- before its short import and found in its place.

-- a library's members are its members for Microsoft's linker
abbrev pub IsMsvcLibrary : MachineType → Library → Type 0
IsMsvcLibrary machine l = AreMembersOf l.definition machine Msvc l.members

-- whether an export is an alias
abbrev pub is_short_alias : ExportView → Bool
is_short_alias e = is_alias e.alias_target (short_import_symbol e)

-- the symbols that an archive lists for the members of an export, each once: of an alias its symbol
-- and the address's, and else those of its short import
abbrev pub symbols_of_short : ExportView → List (List ℕ)
symbols_of_short e =
    if is_short_alias e then short_import_symbol e ∷ imp_symbol (short_import_symbol e) ∷ []
    else short_import_symbols e

-- those for a library's members, but for the null descriptor's, which all libraries share
unfoldable pub symbols_of_shorts : Library → List (List ℕ)
symbols_of_shorts l =
    descriptor_symbol (linked_dll l.definition)
    ∷ null_thunk_symbol (linked_dll l.definition)
    ∷ flat_map symbols_of_short (exports_of l)

-- those for all libraries, with the null descriptor's; none, where there is no library
abbrev pub symbols_of_all_shorts : List Library → List (List ℕ)
symbols_of_all_shorts [] = []
symbols_of_all_shorts (l ∷ libraries) =
    null_descriptor_symbol ∷ flat_map symbols_of_shorts (l ∷ libraries)

-- An archive of libraries for Microsoft's linker: the listed symbols are distinct, but for those
-- that one export's members share, and for the null descriptor's; each DLL's name leads linkers to
-- its descriptor.
pub record IsMsvcArchive (machine : MachineType) (libraries : List Library) : Type 0 where
  pub made : AllByRecursion (IsMsvcLibrary machine) libraries
  pub distinct : IsDistinct bytes_eq (null_descriptor_symbol ∷ flat_map symbols_of_shorts libraries)
  pub found : AllByRecursion
      (λ l. descriptor_symbol_by_name l.definition.import_name
      ≡ descriptor_symbol (linked_dll l.definition))
      libraries

-- whether a member is a weak external, as a linker for a machine takes it
unfoldable pub is_weak_in : MachineType → MemberView → Bool
is_weak_in machine m = has_weak (expanded_in machine m.bytes)

-- the weak externals among members, and the others
abbrev pub weak_in : MachineType → List MemberView → List MemberView
weak_in machine members = filter (is_weak_in machine) members

abbrev pub others_in : MachineType → List MemberView → List MemberView
others_in machine members = filter (λ m. not (is_weak_in machine m)) members

-- what is wanted with the targets of the weak externals that are taken
abbrev pub wanted_with_weak : MachineType → List (List ℕ) → List MemberView → List (List ℕ)
wanted_with_weak machine wanted taken = wanted ++ left_in machine (weak_in machine taken)

-- no name is one by which only members name each other, in any library
abbrev pub NamesNoHeaderOf : List Library → List (List ℕ) → Type 0
NamesNoHeaderOf libraries names =
    AllByRecursion (λ l. NamesNoHeader (linked_dll l.definition) names) libraries

-- whether an export's short import is taken for names: one of its symbols is wanted, and it is no
-- alias
abbrev pub is_import_wanted : List (List ℕ) → ExportView → Bool
is_import_wanted names e = is_short_wanted names e && not (is_short_alias e)

-- the numbers of such exports of a library
abbrev pub imports_wanted : Library → List (List ℕ) → List ℕ
imports_wanted l names = numbers_passing (is_import_wanted names) 0 (exports_of l)

-- what is linked of a library: nothing, where no export is wanted
abbrev pub short_input_if_any : Library → List ℕ → Option FlavorInput
short_input_if_any l [] = None
short_input_if_any l (n ∷ chosen) = Some (record {
  flavor = Msvc;
  input = record { definition = l.definition; members = l.members; chosen = n ∷ chosen };
})

-- what is linked of libraries: of each the short imports that are wanted
abbrev pub short_inputs : List Library → List (List ℕ) → List FlavorInput
short_inputs libraries names =
    filter_map (λ l. short_input_if_any l (imports_wanted l names)) libraries

-- the first library's null descriptor
abbrev pub first_null : MachineType → List Library → List MemberView
first_null machine [] = []
first_null machine (l ∷ libraries) = null_member machine (linked_dll l.definition) ∷ []

-- members with it in front; nothing, where there are none
abbrev pub with_first_null : MachineType → List Library → List MemberView → List MemberView
with_first_null machine libraries [] = []
with_first_null machine libraries (m ∷ members) = first_null machine libraries ++ m ∷ members

-- what is linked of libraries, and the first one's null descriptor, whether an export of it is
-- wanted or not
abbrev pub shorts_linked : MachineType → List Library → List (List ℕ) → List MemberView
shorts_linked machine libraries names =
    with_first_null machine libraries (all_members machine (short_inputs libraries names))

-- One of the two weak externals of an alias, of its symbol or of its address, whose name is among
-- these.
pub record IsWeakShort (libraries : List Library) (names : List (List ℕ))
    (m : MemberView) : Type 0 where
  pub library : Library
  pub held : Contains libraries library
  pub export : ExportView
  pub among : Contains (exports_of library) export
  pub alias : is_short_alias export ≡ true
  pub name : List ℕ
  pub is : (name ≡ short_import_symbol export) ⊎ (name ≡ imp_symbol (short_import_symbol export))
  pub named : Contains names name
  pub listed : m.symbols ≡ name ∷ []

-- Names by which libraries and their exports are wanted: what given objects must not name, or must.

-- the symbols by which only members name each other; none, where there is no library
abbrev pub headers_of : List Library → List (List ℕ)
headers_of [] = []
headers_of (l ∷ libraries) =
    null_descriptor_symbol
    ∷ flat_map
    (λ x. descriptor_symbol (linked_dll x.definition) ∷ null_thunk_symbol (linked_dll x.definition)
    ∷ [])
    (l ∷ libraries)

-- the targets of aliases, in all libraries: those of their symbols, and of their addresses
abbrev pub short_targets : List Library → List (List ℕ)
short_targets libraries =
    flat_map
    (λ l. flat_map (λ e. e.alias_target ∷ imp_symbol e.alias_target ∷ [])
    (filter is_short_alias (exports_of l)))
    libraries

-- the symbols of the short imports that are wanted by some names
abbrev pub import_symbols_wanted : List Library → List (List ℕ) → List (List ℕ)
import_symbols_wanted libraries names =
    flat_map (λ l. flat_map short_import_symbols (filter (is_import_wanted names) (exports_of l)))
    libraries

-- What a linker takes for objects that are given, where nothing is wanted but what the objects
-- leave unresolved.

-- what a linker for a machine takes, which reads short imports as what it takes them for
abbrev pub TakesIntoFor : MachineType → List MemberView → List Object → List MemberView → Type 0
TakesIntoFor machine = TakesIntoAs (expanded_in machine)

-- what is wanted in a closed program: what the given objects leave unresolved, and the targets of
-- the weak externals that are taken for them
abbrev pub wanted_for : MachineType → List Object → List MemberView → List (List ℕ)
wanted_for machine own taken = wanted_with_weak machine (unresolved own) taken

-- a name is one that a weak external makes which is taken
abbrev pub IsWeakTaken : MachineType → List MemberView → List ℕ → Type 0
IsWeakTaken machine taken name =
    (m : MemberView) × Contains (weak_in machine taken) m × (m.symbols ≡ name ∷ [])

-- Closed programs of an archive in which some libraries' members are for GNU's linker and others'
-- for Microsoft's: what a linker takes of it for given objects, and what that is linked to.

-- a library, and the flavour of its members
pub record FlavorLibrary : Type 0 where
  pub flavor : Flavor
  pub library : Library

-- a library, if it is for GNU's linker, and if it is for Microsoft's
abbrev pub if_gnu : Flavor → Library → Option Library
if_gnu Msvc l = None
if_gnu Gnu l = Some l

abbrev pub if_msvc : Flavor → Library → Option Library
if_msvc Msvc l = Some l
if_msvc Gnu l = None

-- those for GNU's linker, and those for Microsoft's, in their order
abbrev pub gnu_among : List FlavorLibrary → List Library
gnu_among libraries = filter_map (λ l. if_gnu l.flavor l.library) libraries

abbrev pub msvc_among : List FlavorLibrary → List Library
msvc_among libraries = filter_map (λ l. if_msvc l.flavor l.library) libraries

-- the archive of their members, one library after another
abbrev pub archive_of_both : List FlavorLibrary → List MemberView
archive_of_both libraries = archive_of (map (λ l. l.library) libraries)

-- An archive of both flavours: the libraries of each are an archive of their flavour, and no symbol
-- of the ones is a symbol of the others.
pub record IsFlavorArchive (machine : MachineType) (libraries : List FlavorLibrary) : Type 0 where
  pub gnu : IsArchive machine (gnu_among libraries)
  pub msvc : IsMsvcArchive machine (msvc_among libraries)
  pub apart : AllByRecursion
      (λ name. list_any (bytes_eq name) (symbols_of_all_shorts (msvc_among libraries)) ≡ false)
      (flat_map (symbols_of_library machine) (gnu_among libraries))

-- no name is one by which only members name each other
pub record NamesNoMembers (machine : MachineType) (libraries : List FlavorLibrary)
    (names : List (List ℕ)) : Type 0 where
  pub gnu : NamesNoHeadOrTailOf machine (gnu_among libraries) names
  pub msvc : NamesNoHeaderOf (msvc_among libraries) names

-- what is linked of a library: nothing, where no export is wanted
abbrev pub flavor_input : List (List ℕ) → Flavor → Library → Option FlavorInput
flavor_input names Msvc l = short_input_if_any l (imports_wanted l names)
flavor_input names Gnu l = option_map gnu_input (input_if_any l (exports_wanted l.definition names))

-- what is linked of libraries, one after another
abbrev pub flavor_inputs : List FlavorLibrary → List (List ℕ) → List FlavorInput
flavor_inputs libraries names = filter_map (λ l. flavor_input names l.flavor l.library) libraries

-- one of the weak externals of an alias, whose name is among these
abbrev pub IsWeakOfLibraries : List FlavorLibrary → List (List ℕ) → MemberView → Type 0
IsWeakOfLibraries libraries names m =
    IsWeakShort (msvc_among libraries) names m ⊎ IsWeakData (gnu_among libraries) names m

-- What a linker takes of such an archive: apart from weak externals, exactly what is linked of the
-- libraries, of each the exports that are wanted, by the program or by a weak external that is
-- taken, and one null descriptor where a short import is; and weak externals of aliases alone.
pub record TakesOfLibraries (machine : MachineType) (libraries : List FlavorLibrary)
    (wanted : List (List ℕ)) (taken : List MemberView) : Type 0 where
  pub inputs : HaveSame (others_in machine taken)
      (shorts_linked machine (msvc_among libraries) (wanted_with_weak machine wanted taken)
      ++ all_linked machine
      (inputs_wanted (gnu_among libraries) (wanted_with_weak machine wanted taken)))
  pub weak : AllByRecursion (IsWeakOfLibraries libraries (wanted_with_weak machine wanted taken))
      (weak_in machine taken)

-- what is linked in a closed program, of libraries in this order
abbrev pub inputs_in : MachineType → List FlavorLibrary → List Object → List MemberView →
    List FlavorInput
inputs_in machine arranged own taken = flavor_inputs arranged (wanted_for machine own taken)

-- Objects that close a program, wherever they are placed:
-- `takes`: a linker takes these members for the given objects;
-- `order`: the libraries are linked in this order, which may be another than that of the archive;
-- `others`: the objects without import tables are those that are given and the weak externals that
-- are taken;
-- `ended`: those with import tables are what the other members are taken for, and what ends the
-- directory;
-- `claims`: the given objects claim no name that members which are taken are listed for or leave to
-- others;
-- `names`: no symbol is wanted by which only members name each other.
pub record AreClosed (machine : MachineType) (ending : Ending)
    (libraries : List FlavorLibrary) (own : List Object) (taken : List MemberView)
    (arranged : List FlavorLibrary) (objects : List Object) : Type 0 where
  pub takes : TakesIntoFor machine (archive_of_both libraries) own taken
  pub order : IsPermutation libraries arranged
  pub others : HaveSame (filter (λ o. not (has_tables o)) objects)
      (own ++ objects_taken machine (weak_in machine taken))
  pub ended : AreEnded ending machine (inputs_in machine arranged own taken) objects
  pub claims : AllByRecursion (ClaimsNone (listed_in taken ++ left_in machine taken)) own
  pub names : NamesNoMembers machine libraries (wanted_for machine own taken)

-- A closed program of such objects: its bases are those of a program.
pub record IsClosed (machine : MachineType) (ending : Ending)
    (libraries : List FlavorLibrary) (own : List Object) (taken : List MemberView)
    (arranged : List FlavorLibrary) (bases : Bases) (objects : List Object) : Type 0 where
  pub closed : AreClosed machine ending libraries own taken arranged objects
  pub admissible : IsAdmissible machine bases objects
  pub lookups : WhereMember ending (bases.lookups % thunk_width machine ≡ 0)
  pub addresses : WhereMember ending (bases.addresses % thunk_width machine ≡ 0)
  pub follows : WhereMember ending
      (bases.directory_ends ≡ group_end Descriptors bases.descriptors objects)

-- the symbols of an export's own member, in a flavour
abbrev pub symbols_in : Flavor → ExportView → List (List ℕ)
symbols_in Msvc e = short_import_symbols e
symbols_in Gnu e = archive_symbols e

-- A name is that of an import of a linked program: `__imp_T`, which is defined once, at T's own
-- entry of its DLL's address table; or T itself, which is no data, and is defined once.
pub record IsImported (machine : MachineType) (linked : List Placed) (bases : Bases)
    (inputs : List FlavorInput) (name : List ℕ) : Type 0 where
  pub number : ℕ
  pub input : FlavorInput
  pub input_is : slice_get inputs number ≡ Some input
  pub index : ℕ
  pub export : ExportView
  pub export_is : slice_get (exports_chosen input) index ≡ Some export
  pub by : ((name ≡ imp_symbol (symbol_in input.flavor export))
      × (definitions_of name linked
      ≡ record {
        name = name;
        address = Some (bases.addresses + thunk_width machine * thunks_of number inputs
            + thunk_width machine * index);
      } ∷ []))
      ⊎ ((name ≡ symbol_in input.flavor export) × (export.is_data ≡ false)
      × IsDefinedOnce linked name)

-- one of the symbols of an export's own member is wanted
abbrev pub IsUsedIn : Flavor → List (List ℕ) → ExportView → Type 0
IsUsedIn flavor wanted e =
    (name : List ℕ) × Contains (symbols_in flavor e) name × Contains wanted name

-- What a closed program links to:
-- `taken_is`: what is taken is exactly what the names want that the given objects leave unresolved;
-- `program`, `links`: what is linked is a program of several DLLs, and links as such;
-- `used`: each import in its directory is used: a given object or an alias that is taken names it;
-- `resolved`: each name that is wanted and that the libraries list is that of an import, or an
-- alias;
-- `closed`: no name is left unresolved that the libraries list.
pub record LinksClosed (machine : MachineType) (ending : Ending)
    (libraries : List FlavorLibrary) (own : List Object) (taken : List MemberView)
    (arranged : List FlavorLibrary) (bases : Bases) (objects : List Object) : Type 0 where
  pub taken_is : TakesOfLibraries machine libraries (unresolved own) taken
  pub program : IsProgramOf machine ending bases (inputs_in machine arranged own taken) objects
  pub links : ProgramLinks machine ending bases (inputs_in machine arranged own taken) objects
  pub used : (i j : ℕ) (p : FlavorInput) (e : ExportView) →
      slice_get (inputs_in machine arranged own taken) i ≡ Some p →
      slice_get (exports_chosen p) j ≡ Some e → IsUsedIn p.flavor (wanted_for machine own taken) e
  pub resolved : (name : List ℕ) → Contains (wanted_for machine own taken) name →
      Contains (listed_in (archive_of_both libraries)) name →
      IsImported machine (placed_from bases objects) bases
      (inputs_in machine arranged own taken) name
      ⊎ IsWeakTaken machine taken name
  pub closed : (name : List ℕ) → Contains (unresolved objects) name →
      Contains (listed_in (archive_of_both libraries)) name → ⊥

-- the symbols by which only members name each other, and the targets of aliases, in all libraries
abbrev pub headers_of_both : MachineType → List FlavorLibrary → List (List ℕ)
headers_of_both machine libraries =
    heads_of machine (gnu_among libraries)
    ++ (tails_of machine (gnu_among libraries) ++ headers_of (msvc_among libraries))

abbrev pub targets_of_both : List FlavorLibrary → List (List ℕ)
targets_of_both libraries =
    alias_targets (gnu_among libraries) ++ short_targets (msvc_among libraries)

-- what is wanted at most: by the given objects, and by aliases
abbrev pub wanted_at_most : List FlavorLibrary → List Object → List (List ℕ)
wanted_at_most libraries own = unresolved own ++ targets_of_both libraries

-- the symbols that members alone may claim: those by which only they name each other, aliases'
-- targets, and those of the exports that are wanted
abbrev pub symbols_kept : MachineType → List FlavorLibrary → List Object → List (List ℕ)
symbols_kept machine libraries own =
    headers_of_both machine libraries
    ++ (targets_of_both libraries
    ++ (symbols_wanted (gnu_among libraries) (wanted_at_most libraries own)
    ++ import_symbols_wanted (msvc_among libraries) (wanted_at_most libraries own)))

-- Objects that may be given to a linker with libraries of both flavours:
-- `claims`: they claim no symbol that members alone may claim; of exports that they do not want
-- they may;
-- `names`: they leave no symbol unresolved by which only members name each other, and none is the
-- target of an alias.
pub record AreGiven (machine : MachineType) (libraries : List FlavorLibrary)
    (own : List Object) : Type 0 where
  pub claims : AllByRecursion (ClaimsNone (symbols_kept machine libraries own)) own
  pub names : NamesNoMembers machine libraries (wanted_at_most libraries own)
