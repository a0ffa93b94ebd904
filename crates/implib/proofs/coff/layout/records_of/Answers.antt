use Rattle.std.proofs.Common.{arith}
use Rattle.implib.specs.Formats.Layout.{record_count}
use Rattle.implib.specs.Views.Layout.{symbol_view}
use Rattle.implib.proofs.Formats.Defaults.{no_symbol}
use Rattle.implib.proofs.Formats.Sums.{sum_more}
use Rattle.implib.proofs.coff.layout.records_of.Goals as goal

pub loop-symbol-preserved : goal.loop-symbol-preserved
unfolding record_count
loop-symbol-preserved c =
    omega (arith, sum_more record_count symbol_view c.args.symbols.now c.loop-symbol.symbol-index no_symbol c.loop-symbol-test.true)
