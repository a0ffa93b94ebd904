use Rattle.std.proofs.Common.{◌≡◌, ◌+◌}
use Rattle.implib.proofs.Formats.Table.{relocated_rows}
use Rattle.implib.proofs.coff.table.add_relocations.Given as goal

abbrev pub invariant-loop-row : goal.invariant-loop-row
invariant-loop-row l = record {
  number : l.number ≡ l.row-index + 1;
  sections : l.writer ≡ record l.initial.writer { sections = relocated_rows l.rows l.row-index };
}
