use Rattle.std.proofs.Common.{◌≡◌, ◌++◌, map, take}
use Rattle.implib.specs.Views.Table.{bare_row}
use Rattle.implib.proofs.coff.table.add_sections.Given as goal

abbrev pub invariant-loop-row : goal.invariant-loop-row
invariant-loop-row l = l.writer ≡ record l.initial.writer { sections = l.initial.writer.sections ++ map bare_row (take l.row-index l.rows) }
