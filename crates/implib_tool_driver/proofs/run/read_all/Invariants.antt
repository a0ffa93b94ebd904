use Rattle.std.proofs.Common.{◌≡◌, ◌-◌, ◌^◌, vec_len}
use Rattle.std.specs.Io.KnownBytes.{Consumes}
use Rattle.implib_tool_driver.proofs.run.read_all.Given as goal

-- the bytes that are here are those that the reader gave
abbrev pub invariant-loop-count : goal.invariant-loop-count
invariant-loop-count g l = record {
  sound : g.R.Source.failed l.reader ≡ g.R.Source.failed l.fn.reader;
  read : Consumes (g.R.Source.remaining l.fn.reader) (g.R.Source.remaining l.reader) l.input.items;
}

abbrev pub decreases-loop-count : goal.decreases-loop-count
decreases-loop-count g l = 2 ^ 64 - vec_len l.input
