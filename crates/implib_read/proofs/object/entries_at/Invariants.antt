use Rattle.std.proofs.Common.{◌≡◌, ◌+◌, ◌*◌, length, map}
use Rattle.implib.specs.Formats.Object.{entries_at}
use Rattle.implib_read.specs.Objects.{room_in}
use Rattle.implib_read.specs.ObjectViews.{entry_view}
use Rattle.implib_read.proofs.Gathering.{Gathers}
use Rattle.implib_read.proofs.Room.{Leaves}
use Rattle.implib_read.proofs.object.entries_at.Given as goal

abbrev pub invariant-loop-left : goal.invariant-loop-left
invariant-loop-left l =
    Gathers (entries_at l.bytes l.strings l.fn.offset 0 l.fn.count) (map entry_view l.entries.items) (entries_at l.bytes l.strings l.place l.auxiliary l.left)
    × (l.place + 18 * l.left ≡ l.fn.offset + 18 * l.fn.count)
    × Leaves (room_in (length l.bytes)) (map entry_view l.entries.items) l.room (length l.entries.items)

abbrev pub decreases-loop-left : goal.decreases-loop-left
decreases-loop-left l = l.left
