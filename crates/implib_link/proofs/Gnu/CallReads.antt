-- What a machine asks of an entry.
use Rattle.std.proofs.Common.{◌≡◌, ℕ, ◌+◌, ◌%◌, ◌^◌, ◌≤◌}
use Rattle.implib.specs.declared.machine.MachineType.{MachineType}
use Rattle.implib.specs.declared.machine.MachineType.TheVariants.{I386, ARMNT, AMD64, ARM64}

-- what a machine asks so that a call can read an entry
abbrev pub CanReach : MachineType → ℕ → ℕ → Type 0
CanReach I386 image_base entry = image_base + 2 ^ 31 ≤ 2 ^ 32
CanReach ARMNT image_base entry = ⊥
CanReach AMD64 image_base entry = Unit {0}
CanReach ARM64 image_base entry = (image_base % 8 ≡ 0) × (entry % 8 ≡ 0)
