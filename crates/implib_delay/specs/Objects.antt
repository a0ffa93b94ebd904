-- The objects of delayed imports, as tables, for AMD64 and I386: what is added to a writer of
-- objects, in order.
--
-- Each function has a descriptor of its own, since the helper uses of a descriptor only the entry
-- and the thunk at one index (mingw-w64, `delayimp`): with a table of one, the index is 0 wherever
-- a linker puts the parts.
use Rattle.std.specs.Prelude.{ℕ, ◌+◌, ◌-◌, List, [], ◌∷◌, ◌++◌, codes, if◌then◌else◌}
use Rattle.implib.specs.declared.coff.object.Place.TheVariants.{Undefined, Section}
use Rattle.implib.specs.declared.coff.object.Relocation.{Relocation}
use Rattle.implib.specs.declared.machine.MachineType.{MachineType}
use Rattle.implib.specs.Definition.{ExportView}
use Rattle.implib.specs.Formats.Constants.{align_16bytes, align_4bytes, class_external}
use Rattle.implib.specs.Formats.Constants.{class_static, cnt_code}
use Rattle.implib.specs.Formats.Constants.{amd64_rel32, cnt_initialized_data, i386_dir32}
use Rattle.implib.specs.Formats.Constants.{mem_execute_read}
use Rattle.implib.specs.Formats.Object.{ObjectSection}
use Rattle.implib.specs.Formats.Writer.{AddedSymbol, WriterState}
use Rattle.implib.specs.Import.{imp_symbol}
use Rattle.implib.specs.LibraryName.{NamesOfDll}
use Rattle.implib.specs.Machine.{is_32bit}
use Rattle.implib.specs.Members.Gnu.{added, data_name, hint_name, section, text_name, thunk}
use Rattle.implib.specs.Members.ImportTables.{relocation, table_flags, thunk_flags, thunk_width}
use Rattle.implib.specs.Members.ImportTables.{zeros}
use Rattle.implib_delay.specs.Code.{descriptor_field, entry_field, helper_field, jump_field}
use Rattle.implib_delay.specs.Code.{stub_code, tail_code, tail_field}
use Rattle.implib_delay.specs.Names.{handle_symbol, helper_symbol, name_symbol, tail_symbol}
use Rattle.implib_delay.specs.Processor.{Mode, Bits64, Bits32}

-- the mode of a machine's code; others than I386 and AMD64 have none here, and are refused
abbrev pub mode_of : MachineType → Mode
mode_of machine = if is_32bit machine then Bits32 else Bits64

-- a relocation: its offset, the index of its symbol and its type
abbrev pub relocated : ℕ → ℕ → ℕ → Relocation
relocated offset index kind = record { offset = offset; symbol = index; kind = kind }

-- "Type Indicators": of a jump or a call, `IMAGE_REL_AMD64_REL32` or `IMAGE_REL_I386_REL32`
abbrev pub jump_kind : MachineType → ℕ
jump_kind machine = if is_32bit machine then 20 else amd64_rel32

-- of an address in code: relative on AMD64, on I386 `IMAGE_REL_I386_DIR32`
abbrev pub address_kind : MachineType → ℕ
address_kind machine = if is_32bit machine then i386_dir32 else amd64_rel32

-- of a word that holds an address: `IMAGE_REL_AMD64_ADDR64` or `IMAGE_REL_I386_DIR32`
abbrev pub word_kind : MachineType → ℕ
word_kind machine = if is_32bit machine then i386_dir32 else 1

-- the flags of read-only data: 0x40300040
abbrev pub read_only_flags : ℕ
read_only_flags = cnt_initialized_data + align_4bytes + 0x4000_0000

-- How AMD64's tail is unwound ("Exception Handling: x64"): version 1, a prologue of 7 bytes, two
-- codes, that is of the allocation of 0x11 * 8 bytes that ends at byte 7.
abbrev pub unwind_codes : List ℕ
unwind_codes = 1 ∷ 7 ∷ 2 ∷ 0 ∷ 7 ∷ 1 ∷ 0x11 ∷ 0 ∷ []

-- The function's entry in `.pdata`: its begin, its end, 0x97 bytes on, and how it is unwound.
abbrev pub unwound_function : List ℕ
unwound_function = 0 ∷ 0 ∷ 0 ∷ 0 ∷ 0x97 ∷ 0 ∷ 0 ∷ 0 ∷ 0 ∷ 0 ∷ 0 ∷ 0 ∷ []

-- the sections that only AMD64's head has
abbrev pub unwind_sections : MachineType → List ObjectSection
unwind_sections machine =
    if is_32bit machine then []
    else section (codes ".xdata" ++ zeros 2) read_only_flags unwind_codes []  -- 3, 0x40300040
    ∷ section (codes ".pdata" ++ zeros 2) read_only_flags unwound_function  -- 4, 0x40300040
    (relocation machine 0 3 ∷ relocation machine 4 3 ∷ relocation machine 8 4 ∷ [])
    ∷ []

abbrev pub unwind_symbols : MachineType → List AddedSymbol
unwind_symbols machine =
    if is_32bit machine then []
    else added (codes ".text") (Section 1) class_static  -- 3
    ∷ added (codes ".xdata") (Section 3) class_static  -- 4
    ∷ []

-- the relocation of the tail's code, by the symbol of the helper
abbrev pub tail_relocations : MachineType → List Relocation
tail_relocations machine = relocated (helper_field (mode_of machine)) 2 (jump_kind machine) ∷ []

-- the head: the code that all stubs share, and the DLL's handle
unfoldable pub head_object : MachineType → List ℕ → WriterState
head_object machine library = record {
  machine = machine;
  sections =
      -- 1, 0x60500020
      section text_name (cnt_code + align_16bytes + mem_execute_read) (tail_code (mode_of machine))
      (tail_relocations machine)
      -- 2, 0xC0400040 or 0xC0300040
      ∷ section data_name (thunk_flags machine) (zeros (thunk_width machine)) []
      ∷ unwind_sections machine;
  symbols =
      added (tail_symbol machine library) (Section 1) class_external  -- 0
      ∷ added (handle_symbol library) (Section 2) class_external  -- 1
      ∷ added (helper_symbol machine) Undefined class_external  -- 2
      ∷ unwind_symbols machine;
}

-- the tail: what ends the tables, and the DLL's name
unfoldable pub tail_object : MachineType → NamesOfDll → WriterState
tail_object machine dll = record {
  machine = machine;
  sections =
      section (codes ".didat$4") (thunk_flags machine) (zeros (thunk_width machine)) []  -- 1
      ∷ section (codes ".didat$5") (thunk_flags machine) (zeros (thunk_width machine)) []  -- 2
      ∷ section (codes ".didat$7") table_flags (dll.text ++ 0 ∷ []) []  -- 3, 0xC0300040
      ∷ [];
  symbols = added (name_symbol dll.linked) (Section 3) class_external ∷ [];  -- 0
}

-- The descriptor ("Delay-Load Directory Table"): its first word says that the fields are relative
-- to the image. At 4 it leads to the DLL's name, at 8 to its handle, at 12 to the address table and
-- at 16 to the name table.
abbrev pub descriptor_bytes : List ℕ
descriptor_bytes = 1 ∷ zeros 31

-- an entry of the address table before the first call: 6 bytes into the stub, behind its jump
abbrev pub unbound_entry : MachineType → List ℕ
unbound_entry machine = 6 ∷ zeros (thunk_width machine - 1)

-- the relocations of an export's stub, by the symbols of the entry, the descriptor and the tail
abbrev pub stub_relocations : MachineType → List Relocation
stub_relocations machine =
    relocated (jump_field (mode_of machine)) 8 (address_kind machine)
    ∷ relocated (entry_field (mode_of machine)) 8 (address_kind machine)
    ∷ relocated (descriptor_field (mode_of machine)) 6 (address_kind machine)
    ∷ relocated (tail_field (mode_of machine)) 2 (jump_kind machine)
    ∷ []

-- the relocation of an export's thunk, where it asks for a name
abbrev pub thunk_relocations : MachineType → ExportView → List Relocation
thunk_relocations machine e = if e.no_name then [] else relocation machine 0 9 ∷ []

-- the sections of an export
abbrev pub export_sections : MachineType → ExportView → List ObjectSection
export_sections machine e =
    -- 1, 0x60300020
    section text_name (cnt_code + align_4bytes + mem_execute_read) (stub_code (mode_of machine))
    (stub_relocations machine)
    -- 2, 0xC0300040
    ∷ section (codes ".didat$2") table_flags descriptor_bytes
    (relocation machine 4 3 ∷ relocation machine 8 4 ∷ relocation machine 12 8
    ∷ relocation machine 16 7 ∷ [])
    -- 3 and 4, 0xC0400040 or 0xC0300040
    ∷ section (codes ".didat$5") (thunk_flags machine) (unbound_entry machine)
    (relocated 0 5 (word_kind machine) ∷ [])
    ∷ section (codes ".didat$4") (thunk_flags machine) (thunk machine e)
    (thunk_relocations machine e)
    -- 5, 0xC0300040
    ∷ section (codes ".didat$6") table_flags (hint_name machine e) []
    ∷ []

-- the symbols of an export
abbrev pub export_symbols : MachineType → List ℕ → ExportView → List AddedSymbol
export_symbols machine library e =
    added e.name (Section 1) class_external  -- 0
    ∷ added (imp_symbol e.name) (Section 3) class_external  -- 1
    ∷ added (tail_symbol machine library) Undefined class_external  -- 2
    ∷ added (name_symbol library) Undefined class_external  -- 3
    ∷ added (handle_symbol library) Undefined class_external  -- 4
    ∷ added (codes ".text") (Section 1) class_static  -- 5
    ∷ added (codes ".didat$2") (Section 2) class_static  -- 6
    ∷ added (codes ".didat$4") (Section 4) class_static  -- 7
    ∷ added (codes ".didat$5") (Section 3) class_static  -- 8
    ∷ added (codes ".didat$6") (Section 5) class_static  -- 9
    ∷ []

-- an export's object with these symbols
abbrev pub object_with : MachineType → ExportView → List AddedSymbol → WriterState
object_with machine e symbols = record {
  machine = machine;
  sections = export_sections machine e;
  symbols = symbols;
}

-- the object of an export
unfoldable pub export_object : MachineType → List ℕ → ExportView → WriterState
export_object machine library e = object_with machine e (export_symbols machine library e)
