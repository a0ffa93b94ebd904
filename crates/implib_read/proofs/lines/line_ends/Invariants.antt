use Rattle.std.proofs.Common.{◌≡◌, take}
use Rattle.implib_read.specs.MemberNames.{ends_from}
use Rattle.implib_read.proofs.lines.line_ends.Given as goal

abbrev pub invariant-loop-place : goal.invariant-loop-place
invariant-loop-place l = l.ends.items ≡ ends_from 0 (take l.place l.text)
