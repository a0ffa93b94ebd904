use Rattle.std.proofs.Common.{◌≡◌, ◌+◌, ◌++◌, ◌∷◌, [], ◌∙◌, ap, get_or, map, refl, sym, take}
use Rattle.std.proofs.lemmas.List.{map-append, take_more}
use Rattle.implib.specs.Views.Layout.{symbol_view}
use Rattle.implib.specs.Formats.Writer.{long_names}
use Rattle.implib.specs.Formats.Writer.{added_view}
use Rattle.implib.proofs.Formats.LongNames.{long_names-push, symbol_written-is, symbols_written-push}
use Rattle.implib.proofs.coff.writer.names_of.Goals as goal

pub loop-symbol-init : goal.loop-symbol-init
unfolding long_names
loop-symbol-init c = record { strings = rw c.new-strings.ensures.empty refl; symbols = rw c.in_ok-named.ensures.items refl }

pub loop-symbol-preserved : goal.loop-symbol-preserved
loop-symbol-preserved c =
    let more : map added_view (take (c.loop-symbol.symbol-index + 1) c.args.symbols.now)
    ≡ map added_view (take c.loop-symbol.symbol-index c.args.symbols.now) ++ added_view c.symbol-item.result ∷ []
    = ap (map added_view) (take_more c.args.symbols.now c.loop-symbol.symbol-index c.symbol-item.result c.loop-symbol-test.true)
    ∙ (map-append added_view (take c.loop-symbol.symbol-index c.args.symbols.now) (get_or c.args.symbols.now c.loop-symbol.symbol-index c.symbol-item.result ∷ [])
    ∙ ap (λ x. map added_view (take c.loop-symbol.symbol-index c.args.symbols.now) ++ added_view x ∷ []) (sym c.symbol-item.is)) in
    let after = rw (c.loop-symbol.invariant.strings, c.as_str.ensures.value) at c.in_ok-name_of.ensures.strings in
    let named = rw (after, c.as_str.ensures.value) at c.in_ok-name_of.ensures.name in
    record {
      strings = rw (more, long_names-push (map added_view (take c.loop-symbol.symbol-index c.args.symbols.now)) (added_view c.symbol-item.result)) after;
      symbols =
          rw (c.in_ok-push.ensures.items, map-append symbol_view c.loop-symbol.named.items _, more)
          (symbols_written-push (map added_view (take c.loop-symbol.symbol-index c.args.symbols.now)) (added_view c.symbol-item.result) (map symbol_view c.loop-symbol.named.items) _
          c.loop-symbol.invariant.symbols
          (symbol_written-is _ (added_view c.symbol-item.result) _ _ named c.number_of.ensures));
    }
