-- Parts of the import tables of a program, each the objects of one DLL's import library, of
-- whatever maker, and the table that is read of them: a head with the descriptor, objects with an
-- entry each, and a tail that ends both tables, as GNU dlltool's libraries have them, and those
-- that are made here for GNU's linker.
use Rattle.std.specs.Prelude.{◌≡◌, ℕ, ◌+◌, ◌*◌, ◌-◌, ◌^◌, ◌≤◌, Bool, ◌&&◌, ◌||◌, ◌==◌, nat_lt, not}
use Rattle.std.specs.Prelude.{true, false, List, [], ◌∷◌, ◌++◌, bytes_eq, drop, map, slice_get}
use Rattle.std.specs.Prelude.{take, Option, Some, length, None, if◌then◌else◌}
use Rattle.std.specs.List.{AllByRecursion, IsDistinct, filter, filter_map, flat_map, list_all}
use Rattle.std.specs.List.{list_any}
use Rattle.std.specs.Option.{option_and_then, option_map}
use Rattle.implib.specs.declared.coff.object.Relocation.{Relocation}
use Rattle.implib.specs.declared.flavor.Flavor.TheVariants.{Gnu}
use Rattle.implib.specs.declared.machine.MachineType.{MachineType}
use Rattle.implib.specs.Definition.{DefinitionView, ExportView}
use Rattle.implib.specs.Formats.Bytes.{u16_bytes}
use Rattle.implib.specs.Formats.Constants.{image_relative}
use Rattle.implib.specs.Formats.File.{is_defined_external}
use Rattle.implib.specs.Formats.Object.{ASymbol, Auxiliary, Entry, Object, ObjectSection}
use Rattle.implib.specs.Formats.Object.{ObjectSymbol, before_nul, section_numbered}
use Rattle.implib.specs.Import.{Ask, Name, Ordinal, expected_ask, imp_symbol, public_exports}
use Rattle.implib.specs.LibraryName.{linked_name, names_for}
use Rattle.implib.specs.Link.Image.{IsAdmissible}
use Rattle.implib.specs.Link.LinkedMembers.{LinkInput, chosen_exports, linked_members, objects_in}
use Rattle.implib.specs.Link.Load.{number_in}
use Rattle.implib.specs.Link.Placement.{Addresses, Bases, Descriptors, DirectoryEnds, DllNames}
use Rattle.implib.specs.Link.Placement.{Group, HintNames, Lookups, alignment, group_named}
use Rattle.implib.specs.Link.Placement.{same_group}
use Rattle.implib.specs.Link.Resolution.{is_undefined_external}
use Rattle.implib.specs.Members.GnuMembers.{head_spec, tail_spec}
use Rattle.implib.specs.Members.ImportTables.{thunk_width, zeros}
use Rattle.implib.specs.Members.MemberSpec.{MemberSpec, MemberView, member_of}
use Rattle.implib.specs.Members.OlderSymbols.{older_spec, older_symbol}
use Rattle.implib.specs.Renaming.{renamed}
use Rattle.implib_link.specs.Flavors.Program.{gnu_input, ClaimsNone, claimed_names, has_tables}
use Rattle.implib_link.specs.Flavors.Program.{is_table, null_descriptor}
use Rattle.implib_link.specs.Gnu.Fields.{absolute_width}
use Rattle.implib_link.specs.Tables.{Block, TableEntry, block_of_flavor}

-- the objects of a DLL's library that are linked, and its entries
pub record Part : Type 0 where
  pub objects : List Object
  pub table : Block

-- whether a section's group is this one
abbrev pub is_of : Group → Option Group → Bool
is_of group None = false
is_of group (Some other) = same_group group other

-- the sections of a group
abbrev pub sections_of : Group → List ObjectSection → List ObjectSection
sections_of group sections = filter (λ s. is_of group (group_named s.name)) sections

-- whether a section is aligned at 4 bytes at most, so that it begins where one before it ends at a
-- multiple of 4
abbrev pub fits_four : ObjectSection → Bool
fits_four s = (alignment s.flags == 1) || ((alignment s.flags == 2) || (alignment s.flags == 4))

abbrev pub one_of : List ObjectSection → Option ObjectSection
one_of [] = None
one_of (s ∷ []) = if fits_four s then Some s else None
one_of (s ∷ t ∷ sections) = None

-- the section of a group, if an object has exactly one, and it is aligned so
abbrev pub only_section : Group → Object → Option ObjectSection
only_section group o = one_of (sections_of group o.sections)

-- whether a symbol's section is of a group
abbrev pub is_in_group : Group → Option ObjectSection → Bool
is_in_group group None = false
is_in_group group (Some s) = is_of group (group_named s.name)

-- Texts: hints with names, and names of DLLs.

abbrev pub holds_texts : Option Group → Bool
holds_texts None = false
holds_texts (Some Descriptors) = false
holds_texts (Some DirectoryEnds) = false
holds_texts (Some Lookups) = false
holds_texts (Some Addresses) = false
holds_texts (Some HintNames) = true
holds_texts (Some DllNames) = true

-- the bytes of such a section from an offset on, which no relocation changes
abbrev pub bytes_from : ObjectSection → List Relocation → ℕ → Option (List ℕ)
bytes_from s [] offset =
    if holds_texts (group_named s.name) then Some (drop offset s.bytes) else None
bytes_from s (r ∷ relocations) offset = None

-- those at a symbol that an object defines
abbrev pub bytes_at_symbol : Object → ObjectSymbol → Option (List ℕ)
bytes_at_symbol o s =
    option_and_then (λ section. bytes_from section section.relocations s.value)
    (section_numbered o.sections s.section)

abbrev pub own_bytes : Object → Option Entry → Option (List ℕ)
own_bytes o None = None
own_bytes o (Some (Auxiliary bytes)) = None
own_bytes o (Some (ASymbol s)) = if is_undefined_external s then None else bytes_at_symbol o s

-- those at the symbol of a name that an object defines for others, and that the last of several
-- objects does
abbrev pub named_bytes_in : Object → List ℕ → List Entry → Option (List ℕ)
named_bytes_in o name [] = None
named_bytes_in o name (Auxiliary bytes ∷ entries) = named_bytes_in o name entries
named_bytes_in o name (ASymbol s ∷ entries) =
    if is_defined_external s && bytes_eq name s.name then bytes_at_symbol o s
    else named_bytes_in o name entries

abbrev pub named_bytes : List ℕ → List Object → Option (List ℕ)
named_bytes name [] = None
named_bytes name (o ∷ []) = named_bytes_in o name o.entries
named_bytes name (o ∷ q ∷ objects) = named_bytes name (q ∷ objects)

-- Thunks.

-- whether a relocation stores an image-relative address at an offset
abbrev pub is_field : MachineType → ℕ → Relocation → Bool
is_field machine offset r = (r.kind == image_relative machine) && (r.offset == offset)

-- the hint and the name in bytes, the name ended by NUL
abbrev pub hint_and_name : List ℕ → Option Ask
hint_and_name [] = None
hint_and_name (low ∷ []) = None
hint_and_name (low ∷ high ∷ bytes) =
    if nat_lt low 256 && nat_lt high 256
    then option_map (λ text. Name text (low + 256 * high)) (before_nul bytes)
    else None

-- a thunk of an ordinal, written whole
abbrev pub ordinal_with : MachineType → List ℕ → ℕ → Option Ask
ordinal_with machine bytes n =
    if bytes_eq bytes (u16_bytes n ++ (zeros (thunk_width machine - 3) ++ 0x80 ∷ []))
    && nat_lt n (2 ^ 16)
    then Some (Ordinal n)
    else None

-- What a thunk asks for: by its own bytes for an ordinal; by its one relocation, zeros otherwise,
-- for the hint and name where that leads.
abbrev pub ask_of : MachineType → Object → List ℕ → List Relocation → Option Ask
ask_of machine o bytes [] = ordinal_with machine bytes (number_in (take 2 bytes))
ask_of machine o bytes (r ∷ []) =
    if is_field machine 0 r && bytes_eq bytes (zeros (thunk_width machine))
    then option_and_then hint_and_name (own_bytes o (slice_get o.entries r.symbol))
    else None
ask_of machine o bytes (r ∷ q ∷ relocations) = None

-- what an object's thunk in a table asks for
abbrev pub thunk_ask : MachineType → Group → Object → Option Ask
thunk_ask machine group o =
    option_and_then (λ s. ask_of machine o s.bytes s.relocations) (only_section group o)

abbrev pub has_none : List Relocation → Bool
has_none [] = true
has_none (r ∷ relocations) = false

abbrev pub null_thunk_of : MachineType → Option ObjectSection → Bool
null_thunk_of machine None = false
null_thunk_of machine (Some s) =
    bytes_eq s.bytes (zeros (thunk_width machine)) && has_none s.relocations

-- whether an object's thunk in a table is the null thunk
abbrev pub is_null_thunk : MachineType → Group → Object → Bool
is_null_thunk machine group o = null_thunk_of machine (only_section group o)

-- the name of a symbol for all objects at an entry of the address table
abbrev pub entry_name : List ObjectSection → Entry → Option (List ℕ)
entry_name sections (Auxiliary bytes) = None
entry_name sections (ASymbol s) =
    if is_defined_external s
    && ((s.value == 0) && is_in_group Addresses (section_numbered sections s.section))
    then Some s.name
    else None

-- whether a symbol for all objects at the entry has this name; nothing is asked where there is none
abbrev pub names_entry : Object → Option (List ℕ) → Bool
names_entry o None = true
names_entry o (Some name) = list_any (bytes_eq name) (filter_map (entry_name o.sections) o.entries)

-- An object with an entry, after the others:
-- `descriptors`: it has no descriptor;
-- `lookup`, `address`: it has one thunk in each table, which asks for this;
-- `symbol`: this, if there is one, is a symbol for all objects at the entry.
pub record IsEntry (machine : MachineType) (o : Object) (e : TableEntry) : Type 0 where
  pub descriptors : sections_of Descriptors o.sections ≡ []
  pub lookup : thunk_ask machine Lookups o ≡ Some e.ask
  pub address : thunk_ask machine Addresses o ≡ Some e.ask
  pub symbol : names_entry o e.symbol ≡ true

-- the tail: it has the null thunk of each table, and no descriptor
pub record IsTail (machine : MachineType) (o : Object) : Type 0 where
  pub descriptors : sections_of Descriptors o.sections ≡ []
  pub lookup : is_null_thunk machine Lookups o ≡ true
  pub address : is_null_thunk machine Addresses o ≡ true

-- objects are those of entries, and the tail
unfoldable pub AreEntries : MachineType → List Object → List TableEntry → Type 0
AreEntries machine [] entries = ⊥
AreEntries machine (o ∷ objects) (e ∷ entries) =
    IsEntry machine o e × AreEntries machine objects entries
AreEntries machine (o ∷ []) [] = IsTail machine o
AreEntries machine (o ∷ q ∷ objects) [] = ⊥

-- Heads.

-- the symbols of a descriptor's three fields
pub record Row : Type 0 where
  pub lookups : ℕ
  pub name : ℕ
  pub addresses : ℕ

-- those of a descriptor's relocations: of the field at 0, and of those at 12 and 16, in either
-- order
abbrev pub row_of : MachineType → List Relocation → Option Row
row_of machine [] = None
row_of machine (r ∷ []) = None
row_of machine (r ∷ q ∷ []) = None
row_of machine (r ∷ q ∷ p ∷ []) =
    if is_field machine 0 r && (is_field machine 12 q && is_field machine 16 p)
    then Some (record { lookups = r.symbol; name = q.symbol; addresses = p.symbol })
    else if is_field machine 0 r && (is_field machine 16 q && is_field machine 12 p)
    then Some (record { lookups = r.symbol; name = p.symbol; addresses = q.symbol })
    else None
row_of machine (r ∷ q ∷ p ∷ n ∷ relocations) = None

abbrev pub row_in : MachineType → Object → Option Row
row_in machine o = option_and_then
    (λ s. if bytes_eq s.bytes (zeros 20) then row_of machine s.relocations else None)
    (only_section Descriptors o)

-- whether an entry is a symbol that an object defines at the beginning of its section of a group
abbrev pub leads_to : Group → Object → Option Entry → Bool
leads_to group o None = false
leads_to group o (Some (Auxiliary bytes)) = false
leads_to group o (Some (ASymbol s)) =
    not (is_undefined_external s)
    && ((s.value == 0) && is_in_group group (section_numbered o.sections s.section))

abbrev pub is_empty : Option ObjectSection → Bool
is_empty None = false
is_empty (Some s) = bytes_eq s.bytes [] && has_none s.relocations

-- whether an object's symbol is where a table begins: it has one section of it, without bytes, and
-- the symbol is there
abbrev pub begins : Group → Object → ℕ → Bool
begins group o symbol =
    is_empty (only_section group o) && leads_to group o (slice_get o.entries symbol)

-- the DLL's name: the text at a symbol that is left to other objects, which the last of these
-- defines
abbrev pub dll_text : List Object → Option Entry → Option (List ℕ)
dll_text objects None = None
dll_text objects (Some (Auxiliary bytes)) = None
dll_text objects (Some (ASymbol s)) =
    if is_undefined_external s then option_and_then before_nul (named_bytes s.name objects)
    else None

-- A head, before other objects:
-- `fields`: it has one descriptor, whose fields are these symbols' addresses;
-- `lookups`, `addresses`: those of the tables are where the tables begin;
-- `name`: that of the name leads to the DLL's.
pub record IsHead (machine : MachineType) (o : Object) (others : List Object)
    (dll : List ℕ) : Type 0 where
  pub row : Row
  pub fields : row_in machine o ≡ Some row
  pub lookups : begins Lookups o row.lookups ≡ true
  pub addresses : begins Addresses o row.addresses ≡ true
  pub name : dll_text others (slice_get o.entries row.name) ≡ Some dll

-- objects are a head, those of the table's entries, in their order, and a tail
unfoldable pub BeginWithHead : MachineType → List Object → Block → Type 0
BeginWithHead machine [] table = ⊥
BeginWithHead machine (o ∷ objects) table =
    IsHead machine o objects table.dll × AreEntries machine objects table.entries

-- each section of an object has the fields of its relocations, 4 bytes each, within its bytes
abbrev pub HoldsFields : Object → Type 0
HoldsFields o = AllByRecursion
    (λ s. AllByRecursion (λ r. r.offset + 4 ≤ length s.bytes) s.relocations) o.sections

-- A part: its objects are these, and the relocations of each are within its sections.
pub record IsPart (machine : MachineType) (p : Part) : Type 0 where
  pub objects : BeginWithHead machine p.objects p.table
  pub sized : AllByRecursion HoldsFields p.objects

-- whether an object's import tables store no address whole
abbrev pub is_whole : Option ℕ → Bool
is_whole None = false
is_whole (Some width) = true

abbrev pub stores_none : MachineType → Object → Bool
stores_none machine o = list_all
    (λ s. not (is_table s)
    || list_all (λ r. not (is_whole (absolute_width machine r.kind))) s.relocations)
    o.sections

-- The part that is linked of a definition for GNU's linker: the head, the chosen exports' members
-- and the tail, and the exports' entries.
abbrev pub part_of : MachineType → LinkInput → Part
part_of machine p = record {
  objects = objects_in (linked_members p.definition machine p.chosen);
  table = block_of_flavor machine (gnu_input p);
}

-- The same of members that have older symbols of addresses beside those of today: what is linked,
-- and the part, whose entries have the one symbol or the other.
abbrev pub older_numbered : MachineType → List ℕ → List ExportView → ℕ → Option MemberSpec
older_numbered machine dll exports number =
    option_map (older_spec machine dll number) (slice_get exports number)

abbrev pub older_linked : DefinitionView → MachineType → List ℕ → List MemberView
older_linked d machine chosen = map member_of
    (head_spec machine (linked_name d)
    ∷ (filter_map (older_numbered machine (linked_name d) (public_exports (renamed d))) chosen
    ++ tail_spec machine (names_for Gnu d) ∷ []))

abbrev pub older_part_of : MachineType → (ExportView → Bool) → LinkInput → Part
older_part_of machine older p = record {
  objects = objects_in (older_linked p.definition machine p.chosen);
  table = record {
    dll = p.definition.import_name;
    entries = map
        (λ (e : ExportView). record {
          ask = expected_ask machine e;
          symbol = Some (if older e then older_symbol e.name else imp_symbol e.name);
        })
        (chosen_exports p.definition p.chosen);
  };
}

-- the objects of parts, one after another, and the names that they claim
abbrev pub objects_of_parts : List Part → List Object
objects_of_parts parts = flat_map (λ (p : Part). p.objects) parts

abbrev pub names_of_parts : List Part → List (List ℕ)
names_of_parts parts = flat_map claimed_names (objects_of_parts parts)

-- A program of parts and of other objects:
-- `tables`: the objects with import tables are those of the parts, and after them the linker's null
-- descriptor;
-- `distinct`: no name is claimed twice by the parts' objects;
-- `others`: the other objects claim none of these names;
-- `admissible`: the bases are.
pub record IsProgramOfParts (machine : MachineType) (bases : Bases) (parts : List Part)
    (objects : List Object) : Type 0 where
  pub tables : filter has_tables objects ≡ objects_of_parts parts ++ null_descriptor ∷ []
  pub distinct : IsDistinct bytes_eq (names_of_parts parts)
  pub others : AllByRecursion (ClaimsNone (names_of_parts parts))
      (filter (λ o. not (has_tables o)) objects)
  pub admissible : IsAdmissible machine bases objects
