use Rattle.std.proofs.Common.{rules}
use Rattle.implib_archive.specs.Archive.{strings_of}
use Rattle.implib_archive.proofs.Appended.{pushes_entry, pushes_nothing}
use Rattle.implib_archive.proofs.front.push_strings.Goals as goal

pub loop-entry-init : goal.loop-entry-init
unfolding strings_of
loop-entry-init c = pushes_nothing _

pub loop-entry-preserved : goal.loop-entry-preserved
unfolding strings_of
loop-entry-preserved c = search (rules, pushes_entry, c.loop-entry-test.true, c.loop-entry.invariant, c.in_ok-push_ended.ensures)
