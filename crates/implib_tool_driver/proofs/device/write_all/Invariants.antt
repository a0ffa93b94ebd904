use Rattle.std.proofs.Common.{◌≡◌, length}
use Rattle.implib_tool_driver.specs.Views.{WrittenSoFar}
use Rattle.implib_tool_driver.proofs.device.write_all.Given as goal

-- the writer has the bytes before those that are left
abbrev pub invariant-loop-rest : goal.invariant-loop-rest
invariant-loop-rest g l = record {
  sound : g.W.Sink.failed l.writer ≡ g.W.Sink.failed l.fn.writer;
  written : WrittenSoFar (g.W.Sink.contents l.fn.writer) (g.W.Sink.contents l.writer) l.bytes l.rest;
}

abbrev pub decreases-loop-rest : goal.decreases-loop-rest
decreases-loop-rest g l = length l.rest
