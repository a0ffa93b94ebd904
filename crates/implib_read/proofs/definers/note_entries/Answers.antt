use Rattle.std.proofs.Common.{sym, rules}
use Rattle.implib_read.specs.FollowingViews.{places_of}
use Rattle.implib_read.specs.ObjectViews.{entry_view, object_view}
use Rattle.implib_read.proofs.FirstPlaces.{noted-entry, option_or-none}
use Rattle.implib_read.proofs.definers.note_entries.Goals as goal

pub loop-entry-init : goal.loop-entry-init
loop-entry-init c = λ other. sym (option_or-none (places_of c.args.places.now other))

pub loop-entry-preserved : goal.loop-entry-preserved
loop-entry-preserved c = λ other.
    noted-entry entry_view (object_view c.args.object.now) other c.args.entries.now c.loop-entry.entry-index _ _ _ _ (search rules) (c.loop-entry.invariant other) (c.in_ok-note_entry.ensures other)
