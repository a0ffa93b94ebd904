use Rattle.std.proofs.Common.{◌≡◌, ◌++◌, map, take}
use Rattle.implib.specs.Views.Table.{symbol_row}
use Rattle.implib.proofs.coff.table.add_symbols.Given as goal

abbrev pub invariant-loop-row : goal.invariant-loop-row
invariant-loop-row l = l.writer ≡ record l.initial.writer { symbols = l.initial.writer.symbols ++ map symbol_row (take l.row-index l.rows) }
