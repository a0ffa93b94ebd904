use Rattle.std.proofs.Common.{flat_map, take}
use Rattle.implib.specs.Formats.Pass.{Puts}
use Rattle.implib.specs.Formats.Layout.{relocation_bytes}
use Rattle.implib.proofs.coff.layout.put_relocations.Given as goal

abbrev pub invariant-loop-relocation : goal.invariant-loop-relocation
invariant-loop-relocation l = Puts l.initial.pass l.pass (flat_map relocation_bytes (take l.relocation-index l.relocations))
