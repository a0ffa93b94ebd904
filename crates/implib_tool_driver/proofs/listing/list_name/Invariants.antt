use Rattle.std.proofs.Common.{take, flat_map}
use Rattle.implib_tool_driver.specs.Listing.{escaped_byte}
use Rattle.implib_tool_driver.specs.Views.{Passes, buffered}
use Rattle.implib_tool_driver.proofs.listing.list_name.Given as goal

-- the name is listed up to here
abbrev pub invariant-loop-byte : goal.invariant-loop-byte
invariant-loop-byte g l = Passes g.W.Sink.keeps
    (buffered (g.W.Sink.contents l.fn.writer) (g.W.Sink.failed l.fn.writer) l.fn.buffer)
    (buffered (g.W.Sink.contents l.writer) (g.W.Sink.failed l.writer) l.buffer)
    (flat_map escaped_byte (take l.byte-index l.byte-items))
