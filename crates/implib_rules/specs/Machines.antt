-- The names of machines on a command line (GNU dlltool's, and the field's others; docs/DLLTOOL.md).
use Rattle.std.specs.Prelude.{ℕ, List, Option, None, Some, codes, if◌then◌else◌}
use Rattle.std.specs.Str.{bytes_eq}
use Rattle.implib.specs.declared.machine.MachineType.{MachineType}
use Rattle.implib.specs.declared.machine.MachineType.TheVariants.{I386, ARMNT, AMD64, ARM64}

-- the machine with a name, in small letters
abbrev pub machine_called : List ℕ → Option MachineType
machine_called name =
    if bytes_eq name (codes "i386") then Some I386
    else if bytes_eq name (codes "x86") then Some I386
    else if bytes_eq name (codes "i386:x86-64") then Some AMD64
    else if bytes_eq name (codes "amd64") then Some AMD64
    else if bytes_eq name (codes "x64") then Some AMD64
    else if bytes_eq name (codes "x86_64") then Some AMD64
    else if bytes_eq name (codes "arm") then Some ARMNT
    else if bytes_eq name (codes "armnt") then Some ARMNT
    else if bytes_eq name (codes "arm64") then Some ARM64
    else if bytes_eq name (codes "aarch64") then Some ARM64
    else None
