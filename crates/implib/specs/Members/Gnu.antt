-- The objects for GNU's linker, as tables (docs/FORMATS.md, "Members for GNU's linker"): what is
-- added to a writer of objects, in order.
use Rattle.std.specs.Prelude.{ℕ, ◌+◌, ◌-◌, ◌==◌, List, [], ◌∷◌, ◌++◌, length, map, replicate, Some}
use Rattle.std.specs.Prelude.{None, codes, decimal, if◌then◌else◌}
use Rattle.implib.specs.declared.coff.object.Place.{Place}
use Rattle.implib.specs.declared.coff.object.Place.TheVariants.{Undefined, Section, Debug}
use Rattle.implib.specs.declared.coff.object.Relocation.{Relocation}
use Rattle.implib.specs.declared.machine.MachineType.{MachineType}
use Rattle.implib.specs.declared.machine.MachineType.TheVariants.{I386, ARMNT, AMD64, ARM64}
pub use Rattle.implib.specs.Ascii.{full_stop}
use Rattle.implib.specs.Formats.Bytes.{u16_bytes}
use Rattle.implib.specs.Formats.Constants.{cnt_code, cnt_initialized_data, cnt_uninitialized_data}
use Rattle.implib.specs.Formats.Constants.{align_2bytes, align_4bytes, align_16bytes}
use Rattle.implib.specs.Formats.Constants.{mem_execute_read, mem_read_write, class_external}
use Rattle.implib.specs.Formats.Constants.{class_static, class_file, i386_dir32, amd64_rel32}
use Rattle.implib.specs.Formats.Constants.{arm_rel32, arm64_pagebase_rel21, arm64_pageoffset_12l}
use Rattle.implib.specs.Definition.{ExportView}
use Rattle.implib.specs.LibraryName.{NamesOfDll}
use Rattle.implib.specs.Underscore.{leading_underscore}
use Rattle.implib.specs.Import.{imp_symbol, name_asked, underscore}
use Rattle.implib.specs.Members.ImportTables.{address_table_offset, descriptor_size}
use Rattle.implib.specs.Members.ImportTables.{lookup_table_offset, name_offset, relocation}
use Rattle.implib.specs.Members.ImportTables.{table_flags, thunk_width, zeros}
use Rattle.implib.specs.Formats.Object.{ObjectSection}
use Rattle.implib.specs.Formats.Writer.{AddedSymbol, WriterState}

-- an underscore for a full stop
abbrev pub without_full_stop : ℕ → ℕ
without_full_stop byte = if byte == full_stop then underscore else byte

-- What the names of a library's members and symbols are made of: its name with each `.` as `_`. For
-- example, `a_b_dll_dll` of a.b.dll.dll.
unfoldable pub mangled_name : List ℕ → List ℕ
mangled_name dll = map without_full_stop dll

-- a symbol of the head or the tail: on I386 with one more `_` in front
abbrev pub prefixed_symbol : MachineType → List ℕ → List ℕ
prefixed_symbol machine name = leading_underscore machine ++ name

-- The symbol of the import descriptor. For example, `_head_foo_dll` of foo.dll, and on I386
-- `__head_foo_dll`.
unfoldable pub head_symbol : MachineType → List ℕ → List ℕ
head_symbol machine dll = prefixed_symbol machine (codes "_head_" ++ mangled_name dll)

-- The symbol of the DLL's name. For example, `foo_dll_iname` of foo.dll, and on I386
-- `_foo_dll_iname`.
unfoldable pub iname_symbol : MachineType → List ℕ → List ℕ
iname_symbol machine dll = prefixed_symbol machine (mangled_name dll ++ codes "_iname")

-- A number with at least five digits. For example, 0 is `00000`, and 100000 is `100000`.
unfoldable pub five_digits : ℕ → List ℕ
five_digits n = replicate (5 - length (decimal n)) 0x30 ++ decimal n

-- The names of the members: of the head and the tail, of an export of a number, and of the weak
-- externals of its symbol and of its address. For example, `foo_dll_a_h.o`, `foo_dll_a_t.o`,
-- `foo_dll_a_s00000.o`, `foo_dll_a_w00000.o` and `foo_dll_a_x00000.o` of foo.dll.
unfoldable pub head_name : List ℕ → List ℕ
head_name dll = mangled_name dll ++ codes "_a_h.o"

unfoldable pub tail_name : List ℕ → List ℕ
tail_name dll = mangled_name dll ++ codes "_a_t.o"

unfoldable pub numbered_name : List ℕ → List ℕ → ℕ → List ℕ
numbered_name dll letter n =
    mangled_name dll ++ (codes "_a_" ++ (letter ++ (five_digits n ++ codes ".o")))

abbrev pub export_name : List ℕ → ℕ → List ℕ
export_name dll n = numbered_name dll (codes "s") n

abbrev pub weak_name : List ℕ → ℕ → List ℕ
weak_name dll n = numbered_name dll (codes "w") n

abbrev pub weak_address_name : List ℕ → ℕ → List ℕ
weak_address_name dll n = numbered_name dll (codes "x") n

-- a section, by its name of 8 bytes, its flags, its data and its relocations
abbrev pub section : List ℕ → ℕ → List ℕ → List Relocation → ObjectSection
section name flags contents relocations = record {
  name = name;
  flags = flags;
  bytes = contents;
  relocations = relocations;
}

-- the names of the sections that every object has, filled with NUL
abbrev pub text_name : List ℕ
text_name = codes ".text" ++ zeros 3

abbrev pub data_name : List ℕ
data_name = codes ".data" ++ zeros 3

abbrev pub bss_name : List ℕ
bss_name = codes ".bss" ++ zeros 4

-- a symbol of value 0 without an auxiliary record: its name, its section and its class
abbrev pub added : List ℕ → Place → ℕ → AddedSymbol
added name place class = record { name = name; value = 0; place = place; class = class; aux = None }

-- the symbol of the file's name; its auxiliary record says `fake`, and takes the next index
abbrev pub file_symbol : AddedSymbol
file_symbol = record {
  name = codes ".file";
  value = 0;
  place = Debug;
  class = class_file;
  aux = Some (codes "fake" ++ zeros 14);
}

-- the sections of the head and of the tail that hold nothing
abbrev pub empty_sections : List ObjectSection
empty_sections =
    section text_name (cnt_code + align_16bytes + mem_execute_read) [] []  -- 1, 0x60500020
    ∷ section data_name (cnt_initialized_data + align_16bytes + mem_read_write) [] []  -- 2, 0xC0500040
    ∷ section bss_name (cnt_uninitialized_data + align_16bytes + mem_read_write) [] []  -- 3, 0xC0500080
    ∷ []

-- the sections of the head: `.idata$2` is the import descriptor, 20 zero bytes, relocated at 0 to
-- the lookup table, at 16 to the address table and at 12 to the name
abbrev pub head_sections : MachineType → List ObjectSection
head_sections machine =
    empty_sections
    -- 4, 0xC0300040
    ++ section (codes ".idata$2") table_flags (zeros descriptor_size)
    (relocation machine lookup_table_offset 3  -- at 0, to `.idata$4`
    ∷ relocation machine address_table_offset 2  -- at 16, to `.idata$5`
    ∷ relocation machine name_offset 5  -- at 12, to the name's symbol
    ∷ [])
    ∷ section (codes ".idata$5") table_flags [] []  -- 5, 0xC0300040
    ∷ section (codes ".idata$4") table_flags [] []  -- 6, 0xC0300040
    ∷ []

-- the symbols of the head, by the descriptor's and the name's
abbrev pub head_symbols : List ℕ → List ℕ → List AddedSymbol
head_symbols head name =
    file_symbol  -- 0, and 1
    ∷ added (codes ".idata$5") (Section 5) class_static  -- 2
    ∷ added (codes ".idata$4") (Section 6) class_static  -- 3
    ∷ added head (Section 4) class_external  -- 4
    ∷ added name Undefined class_external  -- 5
    ∷ []

-- the head
unfoldable pub head_object : MachineType → List ℕ → WriterState
head_object machine dll = record {
  machine = machine;
  sections = head_sections machine;
  symbols = head_symbols (head_symbol machine dll) (iname_symbol machine dll);
}

-- the sections of the tail: the thunks that end the lookup table and the address table, and the
-- DLL's name
abbrev pub tail_sections : MachineType → List ℕ → List ObjectSection
tail_sections machine dll =
    empty_sections
    ++ section (codes ".idata$4") table_flags (zeros (thunk_width machine)) []  -- 4, 0xC0300040
    ∷ section (codes ".idata$5") table_flags (zeros (thunk_width machine)) []  -- 5, 0xC0300040
    ∷ section (codes ".idata$7") table_flags (dll ++ 0 ∷ []) []  -- 6, 0xC0300040
    ∷ []

-- the symbols of the tail, by the name's
abbrev pub tail_symbols : List ℕ → List AddedSymbol
tail_symbols name =
    file_symbol  -- 0, and 1
    ∷ added name (Section 6) class_external  -- 2
    ∷ []

-- the tail: the names of its symbols are for the linker, its text is the DLL's name
unfoldable pub tail_object : MachineType → NamesOfDll → WriterState
tail_object machine dll = record {
  machine = machine;
  sections = tail_sections machine dll.text;
  symbols = tail_symbols (iname_symbol machine dll.linked);
}

-- the instructions that jump to the address of an import (this project's choice)
abbrev pub stub_bytes : MachineType → List ℕ
stub_bytes I386 = 0xFF ∷ 0x25 ∷ 0 ∷ 0 ∷ 0 ∷ 0 ∷ 0x90 ∷ 0x90 ∷ []
stub_bytes ARMNT = 0 ∷ 0xC0 ∷ 0x9F ∷ 0xE5 ∷ 0 ∷ 0xF0 ∷ 0x9C ∷ 0xE5 ∷ 0 ∷ 0 ∷ 0 ∷ 0 ∷ []
stub_bytes AMD64 = 0xFF ∷ 0x25 ∷ 0 ∷ 0 ∷ 0 ∷ 0 ∷ 0x90 ∷ 0x90 ∷ []
stub_bytes ARM64 = 0x10 ∷ 0 ∷ 0 ∷ 0x90 ∷ 0x10 ∷ 2 ∷ 0x40 ∷ 0xF9 ∷ 0 ∷ 2 ∷ 0x1F ∷ 0xD6 ∷ []

-- the relocations of these instructions, to the symbol of this index: their offsets and types
abbrev pub stub_relocations : MachineType → ℕ → List Relocation
stub_relocations I386 index = record { offset = 2; symbol = index; kind = i386_dir32 } ∷ []
stub_relocations ARMNT index = record { offset = 8; symbol = index; kind = arm_rel32 } ∷ []
stub_relocations AMD64 index = record { offset = 2; symbol = index; kind = amd64_rel32 } ∷ []
stub_relocations ARM64 index =
    record { offset = 0; symbol = index; kind = arm64_pagebase_rel21 }
    ∷ record { offset = 4; symbol = index; kind = arm64_pageoffset_12l }
    ∷ []

-- the code of an export; data has none
unfoldable pub stub : MachineType → ExportView → List ℕ
stub machine e = if e.is_data then [] else stub_bytes machine

-- its relocations, to the export's address, symbol 2
unfoldable pub relocations_of_stub : MachineType → ExportView → List Relocation
relocations_of_stub machine e = if e.is_data then [] else stub_relocations machine 2

-- The entry of an export in the lookup table and in the address table: an ordinal with the top bit
-- set, or zeros for the address of a name. For example, the ordinal 258 is `02 01 00 80` on I386
-- and `02 01 00 00 00 00 00 80` on AMD64.
unfoldable pub thunk : MachineType → ExportView → List ℕ
thunk machine e =
    if e.no_name then u16_bytes e.ordinal ++ (zeros (thunk_width machine - 3) ++ 0x80 ∷ [])
    else zeros (thunk_width machine)

-- the index of the symbol of `.idata$6`
abbrev pub hint_name_symbol : ExportView → ℕ
hint_name_symbol e = if e.is_data then 2 else 3

-- the relocation of such an entry, where it has a name
unfoldable pub relocations_of_thunk : MachineType → ExportView → List Relocation
relocations_of_thunk machine e =
    if e.no_name then [] else relocation machine 0 (hint_name_symbol e) ∷ []

-- The hint and the name that is asked for. For example, `02 01 62 61 72 00` for `bar @258` on
-- AMD64, and nothing by ordinal.
unfoldable pub hint_name : MachineType → ExportView → List ℕ
hint_name machine e =
    if e.no_name then [] else u16_bytes e.ordinal ++ (name_asked machine e ++ 0 ∷ [])

-- the flags of what an export puts into the import tables
abbrev pub entry_flags : ℕ
entry_flags = align_4bytes + mem_read_write  -- 0xC0300000

-- the sections of an export
abbrev pub export_sections : MachineType → ExportView → List ObjectSection
export_sections machine e =
    -- 1, 0x60300020
    section text_name (cnt_code + align_4bytes + mem_execute_read) (stub machine e)
    (relocations_of_stub machine e)
    -- 2, 0xC0300040
    ∷ section data_name (cnt_initialized_data + align_4bytes + mem_read_write) [] []
    -- 3, 0xC0300080
    ∷ section bss_name (cnt_uninitialized_data + align_4bytes + mem_read_write) [] []
    -- 4 to 6, 0xC0300000
    ∷ section (codes ".idata$7") entry_flags (zeros 4) (relocation machine 0 0 ∷ [])
    ∷ section (codes ".idata$5") entry_flags (thunk machine e) (relocations_of_thunk machine e)
    ∷ section (codes ".idata$4") entry_flags (thunk machine e) (relocations_of_thunk machine e)
    -- 7, 0xC0200000
    ∷ section (codes ".idata$6") (align_2bytes + mem_read_write) (hint_name machine e) []
    ∷ []

-- the symbol of an export's code; data has none
abbrev pub code_symbol : ExportView → List AddedSymbol
code_symbol e = if e.is_data then [] else added e.name (Section 1) class_external ∷ []

-- the symbols of an export, by the descriptor's
abbrev pub export_symbols : List ℕ → ExportView → List AddedSymbol
export_symbols head e =
    added head Undefined class_external  -- 0
    ∷ (code_symbol e  -- 1; not for data
    ++ added (imp_symbol e.name) (Section 5) class_external  -- 2; for data 1
    ∷ added (codes ".idata$6") (Section 7) class_static  -- 3; for data 2
    ∷ [])

-- The object of an export. For example, that of bar of foo.dll has 474 bytes on AMD64.
unfoldable pub export_object : MachineType → List ℕ → ExportView → WriterState
export_object machine dll e = record {
  machine = machine;
  sections = export_sections machine e;
  symbols = export_symbols (head_symbol machine dll) e;
}

-- the archive symbols of an export
abbrev pub archive_symbols : ExportView → List (List ℕ)
archive_symbols e = if e.is_data then imp_symbol e.name ∷ [] else e.name ∷ imp_symbol e.name ∷ []
