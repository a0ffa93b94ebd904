use Rattle.std.proofs.Common.{◌≡◌, map, take}
use Rattle.implib.specs.Views.Layout.{symbol_view}
use Rattle.implib.specs.Formats.Writer.{long_names, symbol_written}
use Rattle.implib.specs.Formats.Writer.{added_view}
use Rattle.implib.proofs.coff.writer.names_of.Given as goal

abbrev pub invariant-loop-symbol : goal.invariant-loop-symbol
invariant-loop-symbol l = record {
  strings : map (λ text. text.now) l.strings.keys ≡ long_names (map added_view (take l.symbol-index l.symbols));
  symbols : map symbol_view l.named.items ≡ map (symbol_written (long_names (map added_view (take l.symbol-index l.symbols)))) (map added_view (take l.symbol-index l.symbols));
}
