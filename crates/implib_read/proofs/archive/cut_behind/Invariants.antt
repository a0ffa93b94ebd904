use Rattle.std.proofs.Common.{◌≡◌, ◌-◌, ◌≤◌, drop, length}
use Rattle.implib_read.specs.Archives.{cut_from}
use Rattle.implib_read.proofs.archive.cut_behind.Given as goal

-- where what is left is cut off is where all is
abbrev pub invariant-loop-rest : goal.invariant-loop-rest
invariant-loop-rest l =
    (cut_from 0 (length l.bytes - length l.rest) l.rest ≡ cut_from 0 8 (drop 8 l.bytes)) × (length l.rest ≤ length l.bytes)

abbrev pub decreases-loop-rest : goal.decreases-loop-rest
decreases-loop-rest l = length l.rest
