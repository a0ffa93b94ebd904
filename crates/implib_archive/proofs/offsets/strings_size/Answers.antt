use Rattle.std.proofs.Common.{arith, refl}
use Rattle.implib.proofs.Formats.Defaults.{no_text}
use Rattle.implib_archive.specs.Archive.{strings_of}
use Rattle.implib_archive.proofs.Placed.{strings_more}
use Rattle.implib_archive.proofs.offsets.strings_size.Goals as goal

pub loop-entry-init : goal.loop-entry-init
unfolding strings_of
loop-entry-init c = refl

pub loop-entry-preserved : goal.loop-entry-preserved
loop-entry-preserved c = grind (arith, strings_more c.args.entries.now c.loop-entry.entry-index (no_text, 0) c.loop-entry-test.true, c.loop-entry-test.true, c.loop-entry.invariant, c.saturating_add-size.ensures)
