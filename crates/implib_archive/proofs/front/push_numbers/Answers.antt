use Rattle.std.proofs.Common.{rules, ◌^◌, ◌<◌, arith}
use Rattle.implib.proofs.Formats.Defaults.{no_text}
use Rattle.implib_archive.proofs.Appended.{number_at, pushes_entry, pushes_nothing}
use Rattle.implib_archive.proofs.front.push_numbers.Goals as goal

pub overflow_cast-entry : goal.overflow_cast-entry
overflow_cast-entry c = let b = number_at (λ n. n < 2 ^ 16) c.args.entries.now c.loop-entry.entry-index (no_text, 0) c.loop-entry-test.true c.requires in omega (arith, b)

pub loop-entry-init : goal.loop-entry-init
loop-entry-init c = pushes_nothing _

pub loop-entry-preserved : goal.loop-entry-preserved
loop-entry-preserved c = search (rules, pushes_entry, c.loop-entry-test.true, c.loop-entry.invariant, c.in_ok-push_u16_le.ensures)
