-- The machines (PE/COFF specification, "Machine Types").
use Rattle.std.specs.Prelude.{ℕ, Bool, true, false}
use Rattle.implib.specs.declared.machine.MachineType.{MachineType}
use Rattle.implib.specs.declared.machine.MachineType.TheVariants.{I386, ARMNT, AMD64, ARM64}

-- the number of a machine in a file header
abbrev pub machine_number : MachineType → ℕ
machine_number I386 = 0x14C
machine_number ARMNT = 0x1C4
machine_number AMD64 = 0x8664
machine_number ARM64 = 0xAA64

-- whether its addresses have 32 bits
abbrev pub is_32bit : MachineType → Bool
is_32bit I386 = true
is_32bit ARMNT = true
is_32bit AMD64 = false
is_32bit ARM64 = false

-- whether a C symbol begins with an underscore that its name in C lacks
abbrev pub has_leading_underscore : MachineType → Bool
has_leading_underscore I386 = true
has_leading_underscore ARMNT = false
has_leading_underscore AMD64 = false
has_leading_underscore ARM64 = false
