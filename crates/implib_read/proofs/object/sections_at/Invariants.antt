use Rattle.std.proofs.Common.{◌≡◌, ◌+◌, ◌*◌, map}
use Rattle.implib.specs.Formats.Object.{each_at, section_at}
use Rattle.implib_read.specs.ObjectViews.{section_view}
use Rattle.implib_read.proofs.Gathering.{Gathers}
use Rattle.implib_read.proofs.object.sections_at.Given as goal

abbrev pub invariant-loop-left : goal.invariant-loop-left
invariant-loop-left l =
    Gathers (each_at (section_at l.bytes) l.fn.offset 40 l.fn.count) (map section_view l.sections.items) (each_at (section_at l.bytes) l.place 40 l.left)
    × (l.place + 40 * l.left ≡ l.fn.offset + 40 * l.fn.count)

abbrev pub decreases-loop-left : goal.decreases-loop-left
decreases-loop-left l = l.left
