use Rattle.std.proofs.Common.{◌-◌, ◌≤◌, drop, length, map}
use Rattle.implib_read.specs.Archives.{parts_from}
use Rattle.implib_read.specs.ArchiveViews.{part_view}
use Rattle.implib_read.proofs.Gathering.{Gathers}
use Rattle.implib_read.proofs.archive.parts_behind.Given as goal

abbrev pub invariant-loop-rest : goal.invariant-loop-rest
invariant-loop-rest l =
    Gathers (parts_from 0 8 (drop 8 l.bytes)) (map part_view l.parts.items) (parts_from 0 (length l.bytes - length l.rest) l.rest)
    × (length l.rest ≤ length l.bytes)

abbrev pub decreases-loop-rest : goal.decreases-loop-rest
decreases-loop-rest l = length l.rest
