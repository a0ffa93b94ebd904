-- Numbers of the PE/COFF specification, by its names.
use Rattle.std.specs.Prelude.{ℕ, ◌+◌}
use Rattle.implib.specs.declared.machine.MachineType.{MachineType}
use Rattle.implib.specs.declared.machine.MachineType.TheVariants.{I386, ARMNT, AMD64, ARM64}

-- "Section Flags"
abbrev pub cnt_code : ℕ
cnt_code = 0x20

abbrev pub cnt_initialized_data : ℕ
cnt_initialized_data = 0x40

abbrev pub cnt_uninitialized_data : ℕ
cnt_uninitialized_data = 0x80

abbrev pub lnk_info : ℕ
lnk_info = 0x200

abbrev pub lnk_remove : ℕ
lnk_remove = 0x800

abbrev pub align_2bytes : ℕ
align_2bytes = 0x0020_0000

abbrev pub align_4bytes : ℕ
align_4bytes = 0x0030_0000

abbrev pub align_8bytes : ℕ
align_8bytes = 0x0040_0000

abbrev pub align_16bytes : ℕ
align_16bytes = 0x0050_0000

abbrev pub mem_execute_read : ℕ
mem_execute_read = 0x2000_0000 + 0x4000_0000

abbrev pub mem_read_write : ℕ
mem_read_write = 0x4000_0000 + 0x8000_0000

-- "Characteristics": the machine has words of 32 bits
abbrev pub machine_32bit : ℕ
machine_32bit = 0x100

-- "Storage Class"
abbrev pub class_external : ℕ
class_external = 2

abbrev pub class_static : ℕ
class_static = 3

abbrev pub class_file : ℕ
class_file = 103

abbrev pub class_section : ℕ
class_section = 104

abbrev pub class_weak_external : ℕ
class_weak_external = 105

-- "Section Number Values": a symbol of another object, and one whose value is no address
abbrev pub section_undefined : ℕ
section_undefined = 0

abbrev pub section_absolute : ℕ
section_absolute = 0xFFFF

-- "Auxiliary Format 3: Weak Externals": the name is another name for its default
abbrev pub weak_search_alias : ℕ
weak_search_alias = 3

-- "Type Indicators": the address of the symbol relative to the image
abbrev pub image_relative : MachineType → ℕ
image_relative I386 = 7
image_relative ARMNT = 2
image_relative AMD64 = 3
image_relative ARM64 = 2

-- the address of the symbol, on I386
abbrev pub i386_dir32 : ℕ
i386_dir32 = 6

-- the address of the symbol relative to the next instruction, on AMD64
abbrev pub amd64_rel32 : ℕ
amd64_rel32 = 4

-- the same on ARMNT
abbrev pub arm_rel32 : ℕ
arm_rel32 = 0x0A

-- on ARM64 the page of the address, relative to the page of the instruction, and its offset in the
-- page
abbrev pub arm64_pagebase_rel21 : ℕ
arm64_pagebase_rel21 = 4

abbrev pub arm64_pageoffset_12l : ℕ
arm64_pageoffset_12l = 7
