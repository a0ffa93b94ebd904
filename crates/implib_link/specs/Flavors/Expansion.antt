-- Undefined symbols of class section (PE/COFF specification, "Storage Class"): such a symbol stands
-- for the section of its name. Where its object has no section of this name, it makes a
-- contribution without bytes to the group of the name, so that its address is where the object's
-- part of the group begins.
use Rattle.std.specs.Prelude.{ℕ, ◌+◌, Bool, false, true, ◌&&◌, ◌==◌, List, [], ◌∷◌, ◌++◌, bytes_eq}
use Rattle.std.specs.Prelude.{map, not, Option, Some, None, if◌then◌else◌, ◌-◌, nat_le, codes}
use Rattle.std.specs.Prelude.{◌≡◌}
use Rattle.std.specs.List.{list_any}
use Rattle.implib.specs.Formats.Constants.{class_section, class_static, section_undefined}
use Rattle.implib.specs.Formats.Constants.{align_2bytes, align_4bytes, class_external, cnt_code}
use Rattle.implib.specs.Formats.Constants.{cnt_initialized_data, mem_execute_read, mem_read_write}
use Rattle.implib.specs.Members.Gnu.{section, stub_bytes, stub_relocations, text_name}
use Rattle.implib.specs.Members.ImportTables.{table_flags, relocation, thunk_flags, thunk_width}
use Rattle.implib.specs.Members.ImportTables.{zeros}
use Rattle.implib.specs.Formats.Object.{ASymbol, Auxiliary, Entry, Object, ObjectSection}
use Rattle.implib.specs.Formats.Object.{ObjectSymbol}
use Rattle.implib.specs.Link.Placement.{Group, group_named}
use Rattle.std.specs.Option.{option_and_then, option_map}
use Rattle.implib.specs.declared.coff.object.Relocation.{Relocation}
use Rattle.implib.specs.declared.machine.MachineType.{MachineType}
use Rattle.implib.specs.Ascii.{full_stop, holds}
use Rattle.implib.specs.Formats.Bytes.{u16_bytes}
use Rattle.implib.specs.Formats.File.{File, ObjectFile, ShortImportFile, file_in}
use Rattle.implib.specs.Formats.GnuReading.{ask_by_gnu}
use Rattle.implib.specs.Import.{Ask, Name, Ordinal, imp_symbol}
use Rattle.implib.specs.Machine.{machine_number}
use Rattle.implib.specs.Formats.ShortImport.{ShortImport, ask_of_short_import, import_code}
use Rattle.implib.specs.Formats.ShortImport.{import_const, import_data, import_name_undecorate}

-- whether a name is that of a group
abbrev pub is_group : Option Group → Bool
is_group None = false
is_group (Some group) = true

-- whether a symbol stands for the section of its name, which is that of a group
abbrev pub is_section_symbol : ObjectSymbol → Bool
is_section_symbol s =
    (s.class == class_section) && (s.section == section_undefined) && is_group (group_named s.name)

-- a section without bytes; the flags are 0xC0300040
abbrev pub empty_contribution : List ℕ → ObjectSection
empty_contribution name = section name table_flags [] []

-- the sections of an object, with those that its symbols stand for and that it has not
abbrev pub sections_with : List ObjectSection → List Entry → List ObjectSection
sections_with sections [] = sections
sections_with sections (Auxiliary bytes ∷ entries) = sections_with sections entries
sections_with sections (ASymbol s ∷ entries) =
    if is_section_symbol s && not (list_any (λ other. bytes_eq other.name s.name) sections)
    then sections_with (sections ++ empty_contribution s.name ∷ []) entries
    else sections_with sections entries

-- the number of the first section of a name, the first section having this number
abbrev pub section_number_from : ℕ → List ObjectSection → List ℕ → ℕ
section_number_from number [] name = section_undefined
section_number_from number (s ∷ sections) name =
    if bytes_eq s.name name then number else section_number_from (number + 1) sections name

-- an entry of an object with these sections: a symbol that stands for a section is a static one at
-- its front, whatever value it has
abbrev pub entry_with : List ObjectSection → Entry → Entry
entry_with sections (Auxiliary bytes) = Auxiliary bytes
entry_with sections (ASymbol s) =
    if is_section_symbol s
    then ASymbol (record s {
      value = 0;
      section = section_number_from 1 sections s.name;
      class = class_static;
    })
    else ASymbol s

-- An object with the sections that its symbols stand for. For example, the import descriptor gets a
-- section 3, `.idata$4`, and a section 4, `.idata$5`, without bytes, in which its symbols 3 and 4
-- are.
unfoldable pub with_section_symbols : Object → Object
with_section_symbols o = record o {
  sections = sections_with o.sections o.entries;
  entries = map (entry_with (sections_with o.sections o.entries)) o.entries;
}

-- Expansion: a linker takes a short import for the object that it stands for (PE/COFF
-- specification, "Import Library Format"): a thunk in the address table and one in the lookup
-- table, the hint and the name, a stub for code, and its symbols. The specification names the
-- symbols; the sections are those of this project's model (docs/FORMATS.md, "Placement").

-- what an import is used for ("Import Type")
pub data Use : Type 0 where
  Code : Use
  Data : Use
  Constant : Use

-- the use that an import type says, if it is one of the specification's
abbrev pub use_of : ℕ → Option Use
use_of import_type =
    if import_type == import_code then Some Code
    else if import_type == import_data then Some Data
    else if import_type == import_const then Some Constant
    else None

-- A DLL's name up to its last full stop. For example, `a.b` of a.b.dll, and `foo` of foo.drv.
abbrev pub before_last_stop : List ℕ → List ℕ
before_last_stop [] = []
before_last_stop (byte ∷ rest) =
    if (byte == full_stop) && not (holds full_stop rest) then [] else byte ∷ before_last_stop rest

-- The descriptor's symbol that a linker looks for, by the DLL's name alone. For example,
-- `__IMPORT_DESCRIPTOR_foo` for foo.dll, and for foo.drv.
unfoldable pub descriptor_symbol_by_name : List ℕ → List ℕ
descriptor_symbol_by_name dll = codes "__IMPORT_DESCRIPTOR_" ++ before_last_stop dll

-- a symbol of value 0, by its name, section and class
abbrev pub entry : List ℕ → ℕ → ℕ → Entry
entry name number class =
    ASymbol (record { name = name; value = 0; section = number; kind = 0; class = class })

-- the thunk that asks so: an ordinal with the top bit set, or zeros for the address of a hint and a
-- name
abbrev pub thunk_asking : MachineType → Ask → List ℕ
thunk_asking machine (Ordinal n) = u16_bytes n ++ (zeros (thunk_width machine - 3) ++ 0x80 ∷ [])
thunk_asking machine (Name text hint) = zeros (thunk_width machine)

-- its relocation, where it asks by name, to the symbol of `.idata$6`
abbrev pub relocations_asking : MachineType → Ask → List Relocation
relocations_asking machine (Ordinal n) = []
relocations_asking machine (Name text hint) = relocation machine 0 3 ∷ []

-- the hint and the name with its NUL
abbrev pub hint_and_name : List ℕ → ℕ → List ℕ
hint_and_name text hint = u16_bytes hint ++ (text ++ 0 ∷ [])

-- the section of the hint and the name, where there is one; its flags are 0xC0200040
abbrev pub hint_sections : Ask → List ObjectSection
hint_sections (Ordinal n) = []
hint_sections (Name text hint) =
    section (codes ".idata$6") (cnt_initialized_data + align_2bytes + mem_read_write)
    (hint_and_name text hint) []
    ∷ []

-- its symbol
abbrev pub hint_entries : Ask → List Entry
hint_entries (Ordinal n) = []
hint_entries (Name text hint) = entry (codes ".idata$6") 4 class_static ∷ []

-- the stub, for code alone
abbrev pub stub_for : MachineType → Use → List ℕ
stub_for machine Code = stub_bytes machine
stub_for machine Data = []
stub_for machine Constant = []

-- its relocations, to the symbol of the address
abbrev pub stub_relocations_for : MachineType → Use → List Relocation
stub_relocations_for machine Code = stub_relocations machine 2
stub_relocations_for machine Data = []
stub_relocations_for machine Constant = []

-- the symbol itself: of the stub for code, of the entry of the address table for a constant, none
-- for data
abbrev pub use_entries : List ℕ → Use → List Entry
use_entries symbol Code = entry symbol 1 class_external ∷ []
use_entries symbol Data = []
use_entries symbol Constant = entry symbol 2 class_external ∷ []

-- The object by which a DLL is asked so, under a symbol and for a use. For example, for bar of
-- foo.dll on AMD64, as code and by its name: `.text` of 8 bytes, `.idata$5` and `.idata$4` of 8
-- zeros, and `.idata$6`, `00 00 62 61 72 00`; `__imp_bar` is in `.idata$5`, `bar` in `.text`,
-- `__IMPORT_DESCRIPTOR_foo` undefined.
unfoldable pub import_object : MachineType → List ℕ → List ℕ → Ask → Use → Object
import_object machine dll symbol ask use_kind = record {
  machine = machine_number machine;
  time = 0;
  optional_header_size = 0;
  characteristics = 0;
  sections =
      section text_name (cnt_code + align_4bytes + mem_execute_read) (stub_for machine use_kind)
      (stub_relocations_for machine use_kind)
      ∷ section (codes ".idata$5") (thunk_flags machine) (thunk_asking machine ask)
      (relocations_asking machine ask)
      ∷ section (codes ".idata$4") (thunk_flags machine) (thunk_asking machine ask)
      (relocations_asking machine ask)
      ∷ hint_sections ask;
  entries =
      entry (descriptor_symbol_by_name dll) section_undefined class_external  -- 0
      ∷ entry text_name 1 class_static  -- 1
      ∷ entry (imp_symbol symbol) 2 class_external  -- 2
      ∷ (hint_entries ask ++ use_entries symbol use_kind);  -- 3, by name: `.idata$6`
}

-- whether a short import is for a machine and has a name type of the specification
abbrev pub is_import_for : MachineType → ShortImport → Bool
is_import_for machine r =
    (r.machine == machine_number machine) && nat_le r.name_type import_name_undecorate

-- the object that a short import stands for: none, where it is for another machine, or one of its
-- types is none of the specification's
abbrev pub expansion : MachineType → ShortImport → Option Object
expansion machine r =
    if is_import_for machine r
    then option_map (import_object machine r.dll r.symbol (ask_of_short_import r))
    (use_of r.import_type)
    else None

-- what a linker for a machine takes a file for
abbrev pub expanded_as : MachineType → File → Option Object
expanded_as machine (ShortImportFile r) = expansion machine r
expanded_as machine (ObjectFile o) = Some (with_section_symbols o)

-- what it takes the file in these bytes for
unfoldable pub expanded_in : MachineType → List ℕ → Option Object
expanded_in machine bytes = option_and_then (expanded_as machine) (file_in bytes)

-- Whether GNU `ld` takes a file for that, too. It asks by rules of its own (`ask_by_gnu`), and takes
-- a constant for nothing (binutils, bfd/peicode.h, `pe_ILF_build_a_bfd`).
abbrev pub IsReadByGnu : Option File → Type 0
IsReadByGnu (Some (ShortImportFile r)) =
    ((r.import_type == import_const) ≡ false) × (ask_by_gnu r ≡ ask_of_short_import r)
IsReadByGnu (Some (ObjectFile o)) = Unit {0}
IsReadByGnu None = Unit {0}
