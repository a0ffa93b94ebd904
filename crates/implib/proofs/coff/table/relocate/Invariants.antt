use Rattle.std.proofs.Common.{◌≡◌, take}
use Rattle.implib.specs.Views.Table.{with_relocations}
use Rattle.implib.proofs.coff.table.relocate.Given as goal

abbrev pub invariant-loop-relocation : goal.invariant-loop-relocation
invariant-loop-relocation l = l.writer ≡ record l.initial.writer { sections = with_relocations l.initial.writer.sections l.number (take l.relocation-index l.relocations) }
