use Rattle.std.proofs.Common.{◌-◌, ◌≤◌, length}
use Rattle.implib_archive.proofs.front.end_of_piece.Given as goal

-- the entries so far are there
abbrev pub invariant-loop-end : goal.invariant-loop-end
invariant-loop-end l = l.end ≤ length l.entries

abbrev pub decreases-loop-end : goal.decreases-loop-end
decreases-loop-end l = length l.entries - l.end
