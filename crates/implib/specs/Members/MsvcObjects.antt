-- The objects for Microsoft's linker, as tables (docs/FORMATS.md, "Members for Microsoft's
-- linker").
use Rattle.std.specs.Prelude.{ℕ, ◌+◌, ◌-◌, ◌||◌, List, [], ◌∷◌, ◌++◌, length, take, codes, nat_eq}
use Rattle.std.specs.Prelude.{if◌then◌else◌}
use Rattle.std.specs.List.{ends_with}
use Rattle.implib.specs.declared.machine.MachineType.{MachineType}
use Rattle.implib.specs.Formats.Constants.{cnt_initialized_data, align_2bytes, mem_read_write}
use Rattle.implib.specs.Formats.Constants.{machine_32bit, class_external, class_static}
use Rattle.implib.specs.Formats.Constants.{class_section, section_undefined}
use Rattle.implib.specs.LibraryName.{NamesOfDll}
use Rattle.implib.specs.Machine.{machine_number, is_32bit}
use Rattle.implib.specs.Formats.Object.{ObjectSection}
use Rattle.implib.specs.Formats.Layout.{symbol, ObjectLayout, LayoutSymbol, InRecord, InStringTable}
use Rattle.implib.specs.Members.ImportTables.{address_table_offset, descriptor_size}
use Rattle.implib.specs.Members.ImportTables.{lookup_table_offset, name_offset, relocation}
use Rattle.implib.specs.Members.ImportTables.{table_flags, thunk_flags, thunk_width, zeros}

-- The DLL's name without a last `.dll` or `.exe`. For example, `a.b.dll.dll` gives `a.b.dll`, and
-- `a.DLL` and `a.sys` stay.
unfoldable pub base_name : List ℕ → List ℕ
base_name dll =
    if ends_with nat_eq dll (codes ".dll") || ends_with nat_eq dll (codes ".exe")
    then take (length dll - 4) dll else dll

-- The symbol of the import descriptor, DESC. For example, `__IMPORT_DESCRIPTOR_foo` of foo.dll.
unfoldable pub descriptor_symbol : List ℕ → List ℕ
descriptor_symbol dll = codes "__IMPORT_DESCRIPTOR_" ++ base_name dll

-- the symbol of the descriptor that ends the import directory, NULLD
unfoldable pub null_descriptor_symbol : List ℕ
null_descriptor_symbol = codes "__NULL_IMPORT_DESCRIPTOR"

-- the symbol of the thunks that end the tables of a DLL, THUNK
unfoldable pub null_thunk_symbol : List ℕ → List ℕ
null_thunk_symbol dll = 0x7F ∷ (base_name dll ++ codes "_NULL_THUNK_DATA")

-- the characteristics of the first three members: 0x100 where addresses have 32 bits
abbrev pub descriptor_characteristics : MachineType → ℕ
descriptor_characteristics machine = if is_32bit machine then machine_32bit else 0

-- the symbols of the import descriptor: name, section and class, each at its index
abbrev pub descriptor_symbols : List LayoutSymbol
descriptor_symbols =
    symbol (InStringTable 0) 1 class_external  -- 0: DESC
    ∷ symbol (InRecord (codes ".idata$2")) 1 class_section  -- 1
    ∷ symbol (InRecord (codes ".idata$6")) 2 class_static  -- 2
    ∷ symbol (InRecord (codes ".idata$4")) section_undefined class_section  -- 3
    ∷ symbol (InRecord (codes ".idata$5")) section_undefined class_section  -- 4
    ∷ symbol (InStringTable 1) section_undefined class_external  -- 5: NULLD
    ∷ symbol (InStringTable 2) section_undefined class_external  -- 6: THUNK
    ∷ []

-- The sections of the import descriptor: `.idata$2` is 20 zero bytes, relocated at 12 to the name,
-- at 0 to the lookup table and at 16 to the address table; `.idata$6` is the DLL's name.
abbrev pub descriptor_sections : MachineType → List ℕ → List ObjectSection
descriptor_sections machine dll =
    -- 1
    record {
      name = codes ".idata$2";
      flags = table_flags;  -- 0xC0300040
      bytes = zeros descriptor_size;
      relocations =
          relocation machine name_offset 2  -- at 12, to `.idata$6`
          ∷ relocation machine lookup_table_offset 3  -- at 0, to `.idata$4`
          ∷ relocation machine address_table_offset 4  -- at 16, to `.idata$5`
          ∷ [];
    }
    -- 2
    ∷ record {
      name = codes ".idata$6";
      flags = cnt_initialized_data + align_2bytes + mem_read_write;  -- 0xC0200040
      bytes = dll ++ 0 ∷ [];
      relocations = [];
    }
    ∷ []

-- The import descriptor: its symbols are named after the library, its text is the DLL's name. For
-- example, that of foo.dll has 358 bytes.
unfoldable pub descriptor : MachineType → NamesOfDll → ObjectLayout
descriptor machine dll = record {
  machine = machine_number machine;
  characteristics = descriptor_characteristics machine;
  sections = descriptor_sections machine dll.text;
  symbols = descriptor_symbols;
  strings = descriptor_symbol dll.linked ∷ null_descriptor_symbol ∷ null_thunk_symbol dll.linked
      ∷ [];
}

-- the section of the null descriptor
abbrev pub null_descriptor_section : ObjectSection
null_descriptor_section = record {
  name = codes ".idata$3";
  flags = table_flags;  -- 0xC0300040
  bytes = zeros descriptor_size;
  relocations = [];
}

-- The descriptor of zeros that ends the import directory, with the symbol NULLD. It has 127 bytes.
unfoldable pub null_descriptor : MachineType → ObjectLayout
null_descriptor machine = record {
  machine = machine_number machine;
  characteristics = descriptor_characteristics machine;
  sections = null_descriptor_section ∷ [];
  symbols = symbol (InStringTable 0) 1 class_external ∷ [];
  strings = null_descriptor_symbol ∷ [];
}

-- a table's last thunk
abbrev pub null_thunk_section : MachineType → List ℕ → ObjectSection
null_thunk_section machine name = record {
  name = name;
  flags = thunk_flags machine;
  bytes = zeros (thunk_width machine);
  relocations = [];
}

-- The thunks of zeros that end the address table and the lookup table, with the symbol THUNK. For
-- example, those of foo.dll have 159 bytes on AMD64 and 151 on I386.
unfoldable pub null_thunk : MachineType → List ℕ → ObjectLayout
null_thunk machine dll = record {
  machine = machine_number machine;
  characteristics = descriptor_characteristics machine;
  sections =
      null_thunk_section machine (codes ".idata$5") ∷ null_thunk_section machine (codes ".idata$4")
      ∷ [];
  symbols = symbol (InStringTable 0) 1 class_external ∷ [];
  strings = null_thunk_symbol dll ∷ [];
}
