use Rattle.std.proofs.Common.{◌≡◌, ℕ, List, take, map}
use Rattle.std.specs.Option.{option_or}
use Rattle.implib_read.specs.Following.{place_among}
use Rattle.implib_read.specs.FollowingViews.{places_of}
use Rattle.implib_read.specs.ObjectViews.{entry_view, object_view}
use Rattle.implib_read.proofs.definers.note_entries.Given as goal

abbrev pub invariant-loop-entry : goal.invariant-loop-entry
invariant-loop-entry l = (other : List ℕ) → places_of l.places other
    ≡ option_or (places_of l.fn.places other) (place_among (object_view l.object) other (map entry_view (take l.entry-index l.entries)))
