use Rattle.std.proofs.Common.{flat_map, take}
use Rattle.implib.specs.Formats.Pass.{Puts}
use Rattle.implib.specs.Formats.Layout.{symbol_bytes}
use Rattle.implib.specs.Views.Layout.{symbol_view}
use Rattle.implib.proofs.coff.layout.put_symbols.Given as goal

abbrev pub invariant-loop-symbol : goal.invariant-loop-symbol
invariant-loop-symbol l = Puts l.initial.pass l.pass (flat_map (λ s. symbol_bytes l.offsets (symbol_view s)) (take l.symbol-index l.symbols))
