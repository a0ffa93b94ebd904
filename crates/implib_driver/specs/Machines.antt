-- The machines that libraries are made for, and their names (llvm-dlltool's; docs/DLLTOOL.md,
-- "ARM64EC").
use Rattle.std.specs.Prelude.{ℕ, List, Option, Some, codes, if◌then◌else◌}
use Rattle.std.specs.Option.{option_map}
use Rattle.std.specs.Str.{bytes_eq}
use Rattle.implib.specs.declared.machine.MachineType.{MachineType}
use Rattle.implib.specs.declared.machine.MachineType.TheVariants.{ARM64}
use Rattle.implib_driver.specs.declared.machine.LibraryMachine.{LibraryMachine}
use Rattle.implib_driver.specs.declared.machine.LibraryMachine.TheVariants.{Arm64ec, Ordinary}
use Rattle.implib_rules.specs.Machines.{machine_called}

-- the machine by whose rules names are read and the flavour is chosen: for ARM64EC ARM64
abbrev pub machine_type : LibraryMachine → MachineType
machine_type (Ordinary machine) = machine
machine_type Arm64ec = ARM64

-- the machine with a name, in small letters
abbrev pub library_machine_called : List ℕ → Option LibraryMachine
library_machine_called name =
    if bytes_eq name (codes "arm64ec") then Some Arm64ec
    else option_map Ordinary (machine_called name)
