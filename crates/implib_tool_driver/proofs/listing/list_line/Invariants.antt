use Rattle.std.proofs.Common.{◌≡◌, ◌-◌, ◌*◌, take, drop, length, flat_map}
use Rattle.std.specs.List.{enumerate_from}
use Rattle.implib_tool_driver.proofs.Shown.{spaced_byte}
use Rattle.implib_tool_driver.proofs.listing.list_line.Given as goal

-- the line shows the bytes up to here, a space after each
abbrev pub invariant-loop-index : goal.invariant-loop-index
invariant-loop-index g l = record {
  size : length l.line ≡ 48;
  shown : take (3 * (l.index - l.start)) l.line
      ≡ flat_map spaced_byte (enumerate_from l.start (take (l.index - l.start) (drop l.start l.bytes)));
}
