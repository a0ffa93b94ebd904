use Rattle.std.specs.String.{string_bytes}
use Rattle.implib_tool_driver.specs.Listing.{symbol_listing}
use Rattle.implib_tool_driver.proofs.Running.{passes_as, passes_more}
use Rattle.implib_tool_driver.proofs.Shown.{mapped_more}
use Rattle.implib_tool_driver.proofs.listing.list_symbols.Goals as goal

pub loop-symbol-preserved : goal.loop-symbol-preserved
loop-symbol-preserved g c =
    passes_as _ _ _ _ (mapped_more symbol_listing string_bytes c.args.symbols.now c.loop-symbol.symbol-index c.symbol-item.result c.loop-symbol-test.true c.symbol-item.is)
    (passes_more _ _ _ _ _ c.loop-symbol.invariant (rw c.as_str.ensures.value at c.list_symbol.ensures))
