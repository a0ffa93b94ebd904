use Rattle.std.proofs.Common.{◌≡◌, ◌*◌, length, map}
use Rattle.implib_read.specs.Indexes.{entries_from, place_size}
use Rattle.implib_read.specs.IndexViews.{index_entry_view}
use Rattle.implib_read.proofs.Gathering.{Gathers}
use Rattle.implib_read.proofs.index.entries_from.Given as goal

abbrev pub invariant-loop-left : goal.invariant-loop-left
invariant-loop-left l =
    Gathers (entries_from l.second l.fn.count l.fn.places l.fn.symbols) (map index_entry_view l.entries.items) (entries_from l.second l.left l.places l.symbols)
    × (length l.places ≡ place_size l.second * l.left)

abbrev pub decreases-loop-left : goal.decreases-loop-left
decreases-loop-left l = l.left
