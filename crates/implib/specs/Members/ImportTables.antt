-- What the import tables of both flavours are made of (docs/FORMATS.md, "Import tables"; PE/COFF
-- specification, "The .idata Section").
use Rattle.std.specs.Prelude.{ℕ, ◌+◌, List, replicate, if◌then◌else◌}
use Rattle.implib.specs.declared.coff.object.Relocation.{Relocation}
use Rattle.implib.specs.declared.machine.MachineType.{MachineType}
use Rattle.implib.specs.Formats.Constants.{align_4bytes, align_8bytes, cnt_initialized_data}
use Rattle.implib.specs.Formats.Constants.{image_relative, mem_read_write}
use Rattle.implib.specs.Machine.{is_32bit}

-- The size in bytes of an entry of the address table and the lookup table: 4 on I386 and ARMNT, 8
-- on AMD64 and ARM64.
abbrev pub thunk_width : MachineType → ℕ
thunk_width machine = if is_32bit machine then 4 else 8

-- `count` zero bytes
abbrev pub zeros : ℕ → List ℕ
zeros count = replicate count 0

-- An image-relative relocation, at an offset in its section, to the symbol of an index. For
-- example, on AMD64 its type is 3.
abbrev pub relocation : MachineType → ℕ → ℕ → Relocation
relocation machine offset index =
    record { offset = offset; symbol = index; kind = image_relative machine }

-- an import descriptor ("Import Directory Table"): its size in bytes, and the offsets of the
-- addresses of the lookup table, of the DLL's name, and of the address table
abbrev pub descriptor_size : ℕ
descriptor_size = 20

abbrev pub lookup_table_offset : ℕ
lookup_table_offset = 0

abbrev pub name_offset : ℕ
name_offset = 12

abbrev pub address_table_offset : ℕ
address_table_offset = 16

-- the flags of `.idata$2`, `.idata$3` and, in GNU's head and tail, of all import tables
abbrev pub table_flags : ℕ
table_flags = cnt_initialized_data + align_4bytes + mem_read_write  -- 0xC0300040

-- the flags of a section of thunks: 0xC0300040 where thunks have 4 bytes and 0xC0400040 where they
-- have 8
abbrev pub thunk_flags : MachineType → ℕ
thunk_flags machine =
    cnt_initialized_data + (if is_32bit machine then align_4bytes else align_8bytes)
    + mem_read_write
