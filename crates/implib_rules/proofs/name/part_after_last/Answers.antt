use Rattle.std.proofs.Common.{rules}
use Rattle.implib_rules.proofs.Parts.{ended, passed}
use Rattle.implib_rules.proofs.name.part_after_last.Goals as goal

pub loop-after-preserved : goal.loop-after-preserved
loop-after-preserved c = (search rules, passed c.args.separator c.args.name.now c.loop-after.part.now _ c.loop-after.invariant.1 c.in-Some.ensures)

pub returns : goal.returns
returns c = ended c.args.separator c.args.name.now c.loop-after.part.now c.loop-after.invariant.1 c.in_default.ensures
