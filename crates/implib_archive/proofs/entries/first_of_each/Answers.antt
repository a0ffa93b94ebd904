use Rattle.std.proofs.Common.{arith, ◌∙◌, sym}
use Rattle.implib_archive.proofs.Listed.{firsts_more}
use Rattle.implib_archive.proofs.entries.first_of_each.Goals as goal

pub push_first-requires : goal.push_first-requires
push_first-requires c = c.loop-entry.invariant.firsts ∙ sym c.loop-entry.invariant.listed

pub loop-entry-preserved : goal.loop-entry-preserved
loop-entry-preserved c = grind (arith, firsts_more, c.loop-entry-test.true, c.in_ok-push_first.ensures.listed, c.loop-entry.invariant.listed, c.in_ok-push_first.ensures.firsts)
