-- Packed placement: the groups of the import tables one after another, each at the first multiple
-- of 8, and what ends the descriptors right after them, at the first multiple of 4.
use Rattle.std.specs.Prelude.{ℕ, ◌+◌, List, [], ◌∷◌, length, Option, Some, None, if◌then◌else◌, ◌≡◌}
use Rattle.std.specs.Prelude.{zero, suc, Bool, ◌&&◌, ◌||◌, ◌==◌, not, true, false, bytes_eq, codes}
use Rattle.std.specs.Prelude.{take, ◌*◌, ◌%◌, ◌++◌, map, slice_get}
use Rattle.implib.specs.Formats.Object.{Object, ObjectSection, ASymbol, Auxiliary, Entry}
use Rattle.implib.specs.Formats.Object.{ObjectSymbol}
use Rattle.implib.specs.Link.Placement.{Addresses, Bases, Descriptors, DirectoryEnds, DllNames}
use Rattle.implib.specs.Link.Placement.{Group, HintNames, Lookups, alignment, group_named}
use Rattle.implib.specs.Link.Placement.{next_multiple, same_group, Placed, placed_from}
use Rattle.std.specs.List.{AllByRecursion, Contains, filter, filter_map, flat_map, list_any}
use Rattle.std.specs.List.{IsDistinct}
use Rattle.implib.specs.declared.machine.MachineType.{MachineType}
use Rattle.implib.specs.Formats.Constants.{class_external, section_undefined, class_weak_external}
use Rattle.implib.specs.Members.Gnu.{section, head_symbol}
use Rattle.implib.specs.Members.ImportTables.{table_flags, descriptor_size, zeros, thunk_width}
use Rattle.implib.specs.Link.LinkedMembers.{LinkInput, all_linked, chosen_exports, linked_specs}
use Rattle.implib.specs.Link.LinkedMembers.{objects_in}
use Rattle.implib.specs.Link.Resolution.{is_undefined_external, symbol_address, definitions_of}
use Rattle.implib.specs.declared.flavor.Flavor.{Flavor}
use Rattle.implib.specs.declared.flavor.Flavor.TheVariants.{Gnu, Msvc}
use Rattle.implib.specs.Definition.{DefinitionView, ExportView}
use Rattle.implib.specs.Link.Image.{IsAdmissible, Range, image_of}
use Rattle.implib.specs.Import.{Ask, Name, Ordinal, imp_symbol}
use Rattle.implib.specs.LibraryName.{NamesOfDll, linked_dll, names_for}
use Rattle.implib.specs.Link.Linked.{AllFind, IsDefinedAt, IsDefinedOnce, undefined_names}
use Rattle.implib.specs.Link.Load.{LoadsStrictly}
use Rattle.implib.specs.Members.MemberSpec.{MemberSpec, MemberView, member_of}
use Rattle.implib.specs.Members.Members.{AreMembersOf}
use Rattle.implib.specs.Members.Msvc.{short_import_symbol}
use Rattle.implib.specs.Members.MsvcMembers.{descriptor_spec, null_descriptor_spec, null_thunk_spec}
use Rattle.implib.specs.Members.MsvcMembers.{short_import_spec}
use Rattle.implib.specs.Members.MsvcObjects.{descriptor_symbol, null_descriptor_symbol}
use Rattle.implib.specs.Members.NameRules.{asked_in}
use Rattle.implib_link.specs.Directory.{DirectoryAt, Imported}
use Rattle.implib_link.specs.Flavors.Expansion.{descriptor_symbol_by_name, expanded_in}

-- the end of a group after an end and a section of this group or of another one or of none
abbrev pub end_with : Group → ℕ → ObjectSection → Option Group → ℕ
end_with group end s None = end
end_with group end s (Some other) =
    if same_group group other then next_multiple (alignment s.flags) end + length s.bytes else end

-- the end of a group after an end and sections
unfoldable pub sections_end : Group → ℕ → List ObjectSection → ℕ
sections_end group end [] = end
sections_end group end (s ∷ sections) =
    sections_end group (end_with group end s (group_named s.name)) sections

-- the end of a group that begins at a base
unfoldable pub group_end : Group → ℕ → List Object → ℕ
group_end group base [] = base
group_end group base (o ∷ objects) = group_end group (sections_end group base o.sections) objects

-- the base after a group that begins at a base
abbrev pub base_behind : Group → ℕ → List Object → ℕ
base_behind group base objects = next_multiple 8 (group_end group base objects)

-- the bases of the groups, from an address on
abbrev pub packed_descriptors : ℕ → ℕ
packed_descriptors first = next_multiple 8 first

abbrev pub packed_directory_ends : ℕ → List Object → ℕ
packed_directory_ends first objects =
    next_multiple 4 (group_end Descriptors (packed_descriptors first) objects)

abbrev pub packed_lookups : ℕ → List Object → ℕ
packed_lookups first objects =
    base_behind DirectoryEnds (packed_directory_ends first objects) objects

abbrev pub packed_addresses : ℕ → List Object → ℕ
packed_addresses first objects = base_behind Lookups (packed_lookups first objects) objects

abbrev pub packed_hint_names : ℕ → List Object → ℕ
packed_hint_names first objects = base_behind Addresses (packed_addresses first objects) objects

abbrev pub packed_dll_names : ℕ → List Object → ℕ
packed_dll_names first objects = base_behind HintNames (packed_hint_names first objects) objects

abbrev pub packed : ℕ → List Object → Bases
packed first objects = record {
  descriptors = packed_descriptors first;
  directory_ends = packed_directory_ends first objects;
  lookups = packed_lookups first objects;
  addresses = packed_addresses first objects;
  hint_names = packed_hint_names first objects;
  dll_names = packed_dll_names first objects;
}

-- where the last group ends
abbrev pub packed_end : ℕ → List Object → ℕ
packed_end first objects = group_end DllNames (packed_dll_names first objects) objects

-- What objects of a link hold and claim, and how the exports of a DLL for GNU's linker are
-- imported.

-- the descriptor of zeros that ends the import directory: linkers add it after all others
abbrev pub null_descriptor : Object
null_descriptor = record {
  machine = 0;
  time = 0;
  optional_header_size = 0;
  characteristics = 0;
  sections = section (codes ".idata$2") table_flags (zeros descriptor_size) [] ∷ [];
  entries = [];
}

-- whether a section is a part of the import tables: its name begins with `.idata$`
abbrev pub is_table : ObjectSection → Bool
is_table s = bytes_eq (take 7 s.name) (codes ".idata$")

-- whether an object holds such a section
unfoldable pub has_tables : Object → Bool
has_tables o = list_any is_table o.sections

-- whether a symbol is one for all objects
abbrev pub is_shared : ObjectSymbol → Bool
is_shared s = (s.class == class_external) || (s.class == class_weak_external)

-- whether a symbol is plainly left to other objects: external and undefined, and no common block,
-- whose value is its size
abbrev pub is_reference : ObjectSymbol → Bool
is_reference s = (s.class == class_external) && (s.section == section_undefined) && (s.value == 0)

-- the name that an entry claims: it defines it, in a section, as an absolute value, as a common
-- block or as a weak external
abbrev pub claimed_name : Entry → Option (List ℕ)
claimed_name (Auxiliary bytes) = None
claimed_name (ASymbol s) = if is_shared s && not (is_reference s) then Some s.name else None

-- the names that an object claims
abbrev pub claimed_names : Object → List (List ℕ)
claimed_names o = filter_map claimed_name o.entries

-- an object claims none of these names
abbrev pub ClaimsNone : List (List ℕ) → Object → Type 0
ClaimsNone names o =
    AllByRecursion (λ name. list_any (bytes_eq name) (claimed_names o) ≡ false) names

-- the symbols that the linked members of all DLLs are listed for
abbrev pub linked_symbols : MachineType → List LinkInput → List (List ℕ)
linked_symbols machine inputs = flat_map (λ m. m.symbols) (all_linked machine inputs)

-- an undefined symbol of this name, in any object that is linked, has this address
abbrev pub GetsAddress : List Placed → List ℕ → ℕ → Type 0
GetsAddress linked name address =
    (p : Placed) (s : ObjectSymbol) → Contains linked p → Contains p.object.entries (ASymbol s) →
    is_undefined_external s ≡ true → s.name ≡ name →
    symbol_address linked p (ASymbol s) ≡ Some address

-- the thunks in the tables of the first few DLLs, with the null thunks that end them
abbrev pub thunks_before : ℕ → List LinkInput → ℕ
thunks_before zero inputs = 0
thunks_before (suc i) [] = 0
thunks_before (suc i) (p ∷ inputs) =
    length (chosen_exports p.definition p.chosen) + 1 + thunks_before i inputs

-- the objects of a link that hold import tables
abbrev pub with_tables : List Placed → List Placed
with_tables linked = filter (λ p. has_tables p.object) linked

-- the names that placed objects claim
abbrev pub names_claimed_in : List Placed → List (List ℕ)
names_claimed_in linked = flat_map (λ p. claimed_names p.object) linked

-- two lists have the same elements
abbrev pub HaveSame : {X : Type 0} → List X → List X → Type 0
HaveSame {X} first second =
    (x : X) → (Contains first x → Contains second x) × (Contains second x → Contains first x)

-- Programs of DLLs in either flavour: objects that are linked, among them what a linker takes the
-- chosen members of several DLLs for, each made for Microsoft's linker or for GNU's, and what ends
-- their directory. The others hold no part of the import tables and claim no symbol of the members.

-- an input of a link in a flavour: a definition, its members for this flavour's linker, and the
-- numbers of the chosen exports
pub record FlavorInput : Type 0 where
  pub flavor : Flavor
  pub input : LinkInput

-- the members are those of the definition
abbrev pub IsMadeFor : MachineType → FlavorInput → Type 0
IsMadeFor machine p = AreMembersOf p.input.definition machine p.flavor p.input.members

-- the DLL's name
abbrev pub dll_of : FlavorInput → List ℕ
dll_of p = p.input.definition.import_name

-- the DLL's names: for the linker, and as the loader reads it
abbrev pub dll_names_in : FlavorInput → NamesOfDll
dll_names_in p = names_for p.flavor p.input.definition

-- the exports that are chosen
abbrev pub exports_chosen : FlavorInput → List ExportView
exports_chosen p = chosen_exports p.input.definition p.input.chosen

-- the symbol that an export is linked by
abbrev pub symbol_in : Flavor → ExportView → List ℕ
symbol_in Msvc e = short_import_symbol e
symbol_in Gnu e = e.name

-- an export is code: for Microsoft's linker neither data nor a constant, for GNU's no data
abbrev pub IsCode : Flavor → ExportView → Type 0
IsCode Msvc e = (e.is_data ≡ false) × (e.constant ≡ false)
IsCode Gnu e = e.is_data ≡ false

-- what an export's members ask the DLL for
abbrev pub ask_in : Flavor → MachineType → ExportView → Ask
ask_in flavor machine e =
    if e.no_name then Ordinal e.ordinal else Name (asked_in flavor machine e) e.ordinal

-- the symbol of a library's import descriptor
abbrev pub descriptor_in : Flavor → MachineType → NamesOfDll → List ℕ
descriptor_in Msvc machine dll = descriptor_symbol dll.linked
descriptor_in Gnu machine dll = head_symbol machine dll.linked

-- the specifications of what is linked: for Microsoft's linker the import descriptor, the short
-- imports of the chosen exports and the null thunk, for GNU's the head, the chosen exports' members
-- and the tail
abbrev pub specs_in : Flavor → DefinitionView → MachineType → List ℕ → List MemberSpec
specs_in Msvc d machine chosen =
    descriptor_spec machine (names_for Msvc d)
    ∷ (map (short_import_spec machine (names_for Msvc d)) (chosen_exports d chosen)
    ++ null_thunk_spec machine (linked_dll d) ∷ [])
specs_in Gnu d machine chosen = linked_specs d machine chosen

-- what is linked of an input
abbrev pub members_linked : MachineType → FlavorInput → List MemberView
members_linked machine p =
    map member_of (specs_in p.flavor p.input.definition machine p.input.chosen)

-- what is linked of all inputs, one after another
abbrev pub all_members : MachineType → List FlavorInput → List MemberView
all_members machine inputs = flat_map (members_linked machine) inputs

-- the symbols that members are listed for
abbrev pub symbols_listed : List MemberView → List (List ℕ)
symbols_listed members = flat_map (λ m. m.symbols) members

-- the objects that a linker takes members for
abbrev pub objects_taken : MachineType → List MemberView → List Object
objects_taken machine members = filter_map (λ m. expanded_in machine m.bytes) members

-- the null descriptor of a library for Microsoft's linker, by its name for the linker; all
-- libraries have the same, but for its name
abbrev pub null_member : MachineType → List ℕ → MemberView
null_member machine dll = member_of (null_descriptor_spec machine dll)

-- Linkers find a DLL's descriptor: GNU's members name it, and for Microsoft's the symbol that is
-- looked for by the DLL's name is the descriptor's. For example, that of foo.dll is found; that of
-- foo.drv is found where its library has the name foo, and not where it has none.
abbrev pub IsFoundByName : Flavor → NamesOfDll → Type 0
IsFoundByName Msvc dll = descriptor_symbol_by_name dll.text ≡ descriptor_symbol dll.linked
IsFoundByName Gnu dll = Unit {0}

-- What ends the import directory: the linker's own null descriptor, behind all members, or the null
-- descriptor of a library for Microsoft's linker, which is among them.
pub data Ending : Type 0 where
  OfLinker : Ending
  OfMember : Ending

-- what is asked or said where a library's null descriptor ends the directory, and else not
abbrev pub WhereMember : Ending → Type 0 → Type 0
WhereMember OfLinker fact = Unit {0}
WhereMember OfMember fact = fact

-- A library's null descriptor ends the directory:
-- `null_from`: an input for Microsoft's linker, whose null descriptor is linked, put in anywhere
-- (`before`, `behind`) among the members (`members`);
-- `tables`: the objects with import tables are what these are taken for.
pub record AreEndedByMember (machine : MachineType) (inputs : List FlavorInput)
    (objects : List Object) : Type 0 where
  pub null_from : FlavorInput
  pub null_held : Contains inputs null_from
  pub null_flavor : null_from.flavor ≡ Msvc
  pub before : List MemberView
  pub behind : List MemberView
  pub members : before ++ behind ≡ all_members machine inputs
  pub tables : filter has_tables objects
      ≡ objects_taken machine
      (before ++ null_member machine (linked_dll null_from.input.definition) ∷ behind)

-- The linker's null descriptor ends the directory:
-- `gnu`: all members are for GNU's linker, since the others name a library's null descriptor;
-- `tables`: the objects with import tables are the members and, after them, the null descriptor.
pub record AreEndedByLinker (machine : MachineType) (inputs : List FlavorInput)
    (objects : List Object) : Type 0 where
  pub gnu : AllByRecursion (λ p. p.flavor ≡ Gnu) inputs
  pub tables : filter has_tables objects
      ≡ objects_in (all_members machine inputs) ++ null_descriptor ∷ []

-- the objects with import tables, by what ends the directory
abbrev pub AreEnded : Ending → MachineType → List FlavorInput → List Object → Type 0
AreEnded OfLinker machine inputs objects = AreEndedByLinker machine inputs objects
AreEnded OfMember machine inputs objects = AreEndedByMember machine inputs objects

-- the symbols that the members are listed for, and a library's null descriptor
abbrev pub own_names : Ending → MachineType → List FlavorInput → List (List ℕ)
own_names OfLinker machine inputs = symbols_listed (all_members machine inputs)
own_names OfMember machine inputs =
    null_descriptor_symbol ∷ symbols_listed (all_members machine inputs)

-- What may be linked with the members of these inputs, objects with the full names of their
-- sections, as `object_by_full_names` reads them:
-- `distinct`: no two members are listed for one symbol;
-- `ended`: the objects with import tables are what the members are taken for, and what ends the
-- directory;
-- `others`: the other objects are anywhere before, between and after, and claim none of the
-- members' symbols;
-- `found`: linkers find each descriptor by its DLL's name.
pub record AreProgramObjects (machine : MachineType) (ending : Ending) (inputs : List FlavorInput)
    (objects : List Object) : Type 0 where
  pub distinct : IsDistinct bytes_eq (own_names ending machine inputs)
  pub ended : AreEnded ending machine inputs objects
  pub others : AllByRecursion (ClaimsNone (own_names ending machine inputs))
      (filter (λ o. not (has_tables o)) objects)
  pub found : AllByRecursion (λ p. IsFoundByName p.flavor (dll_names_in p)) inputs

-- A program of such objects: the bases are admissible; where a library's null descriptor ends the
-- directory, the tables begin at multiples of a thunk's width, and `.idata$3` begins where
-- `.idata$2` ends.
pub record IsProgramOf (machine : MachineType) (ending : Ending) (bases : Bases)
    (inputs : List FlavorInput) (objects : List Object) : Type 0 where
  pub held : AreProgramObjects machine ending inputs objects
  pub admissible : IsAdmissible machine bases objects
  pub lookups : WhereMember ending (bases.lookups % thunk_width machine ≡ 0)
  pub addresses : WhereMember ending (bases.addresses % thunk_width machine ≡ 0)
  pub follows : WhereMember ending
      (bases.directory_ends ≡ group_end Descriptors bases.descriptors objects)

-- these symbols are at entries of `width` bytes, one after another from an address on, and nowhere
-- else
unfoldable pub SymbolsAt : List Placed → ℕ → ℕ → List (List ℕ) → Type 0
SymbolsAt linked width address [] = Unit {0}
SymbolsAt linked width address (name ∷ names) =
    (definitions_of name linked ≡ record { name = name; address = Some address } ∷ [])
    × SymbolsAt linked width (address + width) names

-- an undefined symbol of each of these names, in any object that is linked, has the address of its
-- own entry
unfoldable pub SymbolsGet : List Placed → ℕ → ℕ → List (List ℕ) → Type 0
SymbolsGet linked width address [] = Unit {0}
SymbolsGet linked width address (name ∷ names) =
    GetsAddress linked name address × SymbolsGet linked width (address + width) names

-- what a program imports by an input
abbrev pub imported_in : MachineType → FlavorInput → Imported
imported_in machine p =
    record { dll = dll_of p; asks = map (ask_in p.flavor machine) (exports_chosen p) }

-- the `__imp_` symbols of the chosen exports
abbrev pub imp_symbols : FlavorInput → List (List ℕ)
imp_symbols p = map (λ e. imp_symbol (symbol_in p.flavor e)) (exports_chosen p)

-- A DLL's chosen exports are imported by the descriptor at an address, whose symbol has this
-- address: a strict loader finds the DLL and what they ask for, the address table is at this
-- address, and `__imp_` symbols are its entries.
pub record InputImports (machine : MachineType) (image : List Range) (linked : List Placed)
    (descriptor table : ℕ) (p : FlavorInput) : Type 0 where
  pub top : definitions_of (descriptor_in p.flavor machine (dll_names_in p)) linked
      ≡ record { name = descriptor_in p.flavor machine (dll_names_in p); address = Some descriptor }
      ∷ []
  pub loads : LoadsStrictly image (thunk_width machine) descriptor (dll_of p)
      (map (ask_in p.flavor machine) (exports_chosen p))
  pub table_located : loads.plain.addresses ≡ table
  pub entries : SymbolsAt linked (thunk_width machine) table (imp_symbols p)
  pub gets : SymbolsGet linked (thunk_width machine) table (imp_symbols p)

-- what is linked of an input are members of it, and a linker takes each for an object; for
-- Microsoft's linker they have a null descriptor, too
pub record IsTaken (machine : MachineType) (p : FlavorInput) : Type 0 where
  pub from_members : AllByRecursion (Contains p.input.members) (members_linked machine p)
  pub read : map (λ m. expanded_in machine m.bytes) (members_linked machine p)
      ≡ map Some (objects_taken machine (members_linked machine p))
  pub null : p.flavor ≡ Msvc →
      Contains p.input.members (null_member machine (linked_dll p.input.definition))

-- the thunks in the tables of the first few DLLs, with the null thunks that end them
abbrev pub thunks_of : ℕ → List FlavorInput → ℕ
thunks_of i inputs = thunks_before i (map (λ p. p.input) inputs)

-- the names that members claim, where a library's null descriptor may be anywhere among them
abbrev pub AreClaimed : Ending → List (List ℕ) → List (List ℕ) → Type 0
AreClaimed OfLinker claimed own = claimed ≡ own
AreClaimed OfMember claimed own = HaveSame claimed own

-- What a link of a program gives, of objects placed at bases:
-- `linked`: what is linked of each definition are its members;
-- `imports`: the i-th DLL's descriptor is the i-th from the descriptors' base, its address table is
-- after those of the DLLs before it, and its imports are as above;
-- `directory`: at the base is a directory of exactly these imports;
-- `null`: where it is a library's null descriptor that ends it, its symbol has this address
-- (`ended`);
-- `targets`: every relocation of a member finds its target;
-- `defined`: every symbol that a member leaves to others is defined once, at an address;
-- `listed`: every symbol that a member is listed for is defined once;
-- `claimed`: the names that the members claim are those that they are listed for, a library's null
-- descriptor's with them, and no others.
pub record ProgramLinks (machine : MachineType) (ending : Ending) (bases : Bases)
    (inputs : List FlavorInput) (objects : List Object) : Type 0 where
  pub linked : AllByRecursion (IsTaken machine) inputs
  pub imports : (i : ℕ) (p : FlavorInput) → slice_get inputs i ≡ Some p →
      InputImports machine (image_of machine bases (placed_from bases objects))
      (placed_from bases objects)
      (bases.descriptors + 20 * i) (bases.addresses + thunk_width machine * thunks_of i inputs) p
  pub directory : DirectoryAt (image_of machine bases (placed_from bases objects))
      (thunk_width machine) bases.descriptors (map (imported_in machine) inputs)
  pub null : WhereMember ending (definitions_of null_descriptor_symbol (placed_from bases objects)
      ≡ record { name = null_descriptor_symbol; address = Some bases.directory_ends } ∷ [])
  pub ended : WhereMember ending (bases.directory_ends ≡ bases.descriptors + 20 * length inputs)
  pub targets : AllByRecursion (AllFind (placed_from bases objects))
      (with_tables (placed_from bases objects))
  pub defined : AllByRecursion (IsDefinedAt (placed_from bases objects))
      (undefined_names (with_tables (placed_from bases objects)))
  pub listed : AllByRecursion (IsDefinedOnce (placed_from bases objects))
      (symbols_listed (all_members machine inputs))
  pub claimed : AreClaimed ending (names_claimed_in (with_tables (placed_from bases objects)))
      (own_names ending machine inputs)

-- an input of a link for GNU's linker, as one in a flavour
abbrev pub gnu_input : LinkInput → FlavorInput
gnu_input p = record { flavor = Gnu; input = p }

-- a program of members for GNU's linker, which the linker's null descriptor ends, and what its link
-- gives
abbrev pub IsProgram : MachineType → Bases → List LinkInput → List Object → Type 0
IsProgram machine bases inputs objects =
    IsProgramOf machine OfLinker bases (map gnu_input inputs) objects

abbrev pub LinksAmong : MachineType → Bases → List LinkInput → List Object → Type 0
LinksAmong machine bases inputs objects =
    ProgramLinks machine OfLinker bases (map gnu_input inputs) objects
