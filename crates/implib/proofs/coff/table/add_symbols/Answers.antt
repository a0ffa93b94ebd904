use Rattle.std.proofs.Common.{ap, arith, length}
use Rattle.implib.specs.Formats.Writer.{AddedSymbol}
use Rattle.implib.proofs.Formats.Defaults.{no_symbol_row}
use Rattle.implib.proofs.Formats.Table.{next_can_be_added, next_records}
use Rattle.implib.proofs.coff.table.add_symbols.Goals as goal

pub add_symbol-requires-clause-named : goal.add_symbol-requires-clause-named
add_symbol-requires-clause-named c = rw (ap (λ (s : AddedSymbol). s.name) c.in_ok-symbol.ensures) (next_can_be_added (length c.args.writer.now.sections) c.args.rows.now c.loop-row.row-index no_symbol_row c.requires.each c.loop-row-test.true).named

pub add_symbol-requires-clause-no_nul : goal.add_symbol-requires-clause-no_nul
add_symbol-requires-clause-no_nul c = rw (ap (λ (s : AddedSymbol). s.name) c.in_ok-symbol.ensures) (next_can_be_added (length c.args.writer.now.sections) c.args.rows.now c.loop-row.row-index no_symbol_row c.requires.each c.loop-row-test.true).no_nul

pub add_symbol-requires-clause-place : goal.add_symbol-requires-clause-place
add_symbol-requires-clause-place c = rw (c.loop-row.invariant, ap (λ (s : AddedSymbol). s.place) c.in_ok-symbol.ensures) (next_can_be_added (length c.args.writer.now.sections) c.args.rows.now c.loop-row.row-index no_symbol_row c.requires.each c.loop-row-test.true).place

pub add_symbol-requires-clause-room : goal.add_symbol-requires-clause-room
add_symbol-requires-clause-room c =
    rw c.loop-row.invariant (omega (arith, next_records c.args.writer.now.symbols c.args.rows.now c.loop-row.row-index no_symbol_row c.loop-row-test.true, c.requires.room))
