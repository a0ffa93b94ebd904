use Rattle.std.proofs.Common.{rules, ◌<◌, ◌≤◌, arith, length}
use Rattle.implib.proofs.Formats.Defaults.{no_text}
use Rattle.implib_archive.specs.Archive.{place_of}
use Rattle.implib_archive.proofs.Appended.{number_at, pushes_entry, pushes_nothing}
use Rattle.implib_archive.proofs.front.push_entry_places.Goals as goal

pub overflow_sub-entry : goal.overflow_sub-entry
overflow_sub-entry c = let b = (number_at (λ n. (0 < n) × (n ≤ length c.args.places.now)) c.args.entries.now c.loop-entry.entry-index (no_text, 0) c.loop-entry-test.true c.requires) in omega (arith, b.0)

pub bounds-places-entry : goal.bounds-places-entry
bounds-places-entry c = let b = number_at (λ n. (0 < n) × (n ≤ length c.args.places.now)) c.args.entries.now c.loop-entry.entry-index (no_text, 0) c.loop-entry-test.true c.requires in omega (arith, b.0, b.1)

pub offset_bounds-places-entry : goal.offset_bounds-places-entry
offset_bounds-places-entry c = let b = number_at (λ n. (0 < n) × (n ≤ length c.args.places.now)) c.args.entries.now c.loop-entry.entry-index (no_text, 0) c.loop-entry-test.true c.requires in omega (arith, b.1)

pub loop-entry-init : goal.loop-entry-init
loop-entry-init c = pushes_nothing _

pub loop-entry-preserved : goal.loop-entry-preserved
unfolding place_of
loop-entry-preserved c = search (rules, pushes_entry, c.loop-entry-test.true, c.loop-entry.invariant, c.in_ok-push_u32_be.ensures)
