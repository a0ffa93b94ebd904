use Rattle.std.proofs.Common.{◌≡◌, ◌-◌, ◌^◌, map, min, sum_by, take}
use Rattle.implib.specs.Formats.Layout.{record_count}
use Rattle.implib.specs.Views.Layout.{symbol_view}
use Rattle.implib.proofs.coff.layout.records_of.Given as goal

abbrev pub invariant-loop-symbol : goal.invariant-loop-symbol
invariant-loop-symbol l = l.total ≡ min (sum_by record_count (map symbol_view (take l.symbol-index l.symbols))) (2 ^ 64 - 1)
