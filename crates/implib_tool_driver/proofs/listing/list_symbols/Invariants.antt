use Rattle.std.proofs.Common.{take, flat_map, map}
use Rattle.std.specs.String.{string_bytes}
use Rattle.implib_tool_driver.specs.Listing.{symbol_listing}
use Rattle.implib_tool_driver.specs.Views.{Passes, buffered}
use Rattle.implib_tool_driver.proofs.listing.list_symbols.Given as goal

-- the symbols are listed up to here
abbrev pub invariant-loop-symbol : goal.invariant-loop-symbol
invariant-loop-symbol g l = Passes g.W.Sink.keeps
    (buffered (g.W.Sink.contents l.fn.writer) (g.W.Sink.failed l.fn.writer) l.fn.buffer)
    (buffered (g.W.Sink.contents l.writer) (g.W.Sink.failed l.writer) l.buffer)
    (flat_map symbol_listing (map string_bytes (take l.symbol-index l.symbols)))
