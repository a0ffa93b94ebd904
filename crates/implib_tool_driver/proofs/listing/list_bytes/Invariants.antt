use Rattle.std.proofs.Common.{◌≡◌, ◌-◌, ◌%◌, ◌≤◌, length, flat_map, take}
use Rattle.std.specs.List.{enumerate_from}
use Rattle.implib_tool_driver.specs.Listing.{byte_listing}
use Rattle.implib_tool_driver.specs.Views.{Passes, buffered}
use Rattle.implib_tool_driver.proofs.listing.list_bytes.Given as goal

-- the bytes are listed up to here
abbrev pub invariant-loop-start : goal.invariant-loop-start
invariant-loop-start g l = record {
  within : l.start ≤ length l.bytes;
  first : l.start % 16 ≡ 0;
  listed : Passes g.W.Sink.keeps
      (buffered (g.W.Sink.contents l.fn.writer) (g.W.Sink.failed l.fn.writer) l.fn.buffer)
      (buffered (g.W.Sink.contents l.writer) (g.W.Sink.failed l.writer) l.buffer)
      (flat_map (byte_listing (length l.bytes)) (enumerate_from 0 (take l.start l.bytes)));
}

abbrev pub decreases-loop-start : goal.decreases-loop-start
decreases-loop-start g l = length l.bytes - l.start
