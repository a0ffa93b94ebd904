-- Names and numbers of machines and flavours, and what converting from them gives.
use Rattle.std.specs.Prelude.{◌≡◌, ℕ, ◌==◌, List, Option, None, Some, MatchOption, Result, Ok}
use Rattle.std.specs.Prelude.{IsErr, codes, if◌then◌else◌}
use Rattle.std.specs.Str.{bytes_eq}
use Rattle.implib.specs.declared.flavor.Flavor.{Flavor}
use Rattle.implib.specs.declared.flavor.Flavor.TheVariants.{Msvc, Gnu}
use Rattle.implib.specs.declared.machine.MachineType.{MachineType}
use Rattle.implib.specs.declared.machine.MachineType.TheVariants.{I386, ARMNT, AMD64, ARM64}
use Rattle.implib.specs.Machine.{machine_number}

-- the name of a machine
abbrev pub machine_name : MachineType → List ℕ
machine_name I386 = codes "I386"
machine_name ARMNT = codes "ARMNT"
machine_name AMD64 = codes "AMD64"
machine_name ARM64 = codes "ARM64"

-- the name of a flavour
abbrev pub flavor_name : Flavor → List ℕ
flavor_name Msvc = codes "msvc"
flavor_name Gnu = codes "gnu"

-- the machine with a name, capitals as they are
abbrev pub machine_named : List ℕ → Option MachineType
machine_named name =
    if bytes_eq name (codes "I386") then Some I386
    else if bytes_eq name (codes "ARMNT") then Some ARMNT
    else if bytes_eq name (codes "AMD64") then Some AMD64
    else if bytes_eq name (codes "ARM64") then Some ARM64
    else None

-- the flavour with a name, small letters as they are
abbrev pub flavor_named : List ℕ → Option Flavor
flavor_named name =
    if bytes_eq name (codes "msvc") then Some Msvc
    else if bytes_eq name (codes "gnu") then Some Gnu
    else None

-- the machine with a number (PE/COFF specification, "Machine Types")
abbrev pub machine_numbered : ℕ → Option MachineType
machine_numbered number =
    if number == 0x14C then Some I386
    else if number == 0x1C4 then Some ARMNT
    else if number == 0x8664 then Some AMD64
    else if number == 0xAA64 then Some ARM64
    else None

-- the result is the value, and an error where there is none
abbrev pub IsConverted : {X E : Type 0} → Option X → Result X E → Type 0
IsConverted found result = MatchOption found (IsErr result) (λ x. result ≡ Ok x)

-- each name and each number leads back to its machine or flavour
pub record ConversionsReturn : Type 0 where
  pub machine_by_name : (machine : MachineType) →
      machine_named (machine_name machine) ≡ Some machine
  pub machine_by_number : (machine : MachineType) →
      machine_numbered (machine_number machine) ≡ Some machine
  pub flavor_by_name : (flavor : Flavor) → flavor_named (flavor_name flavor) ≡ Some flavor
