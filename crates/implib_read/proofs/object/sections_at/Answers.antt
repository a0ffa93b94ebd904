use Rattle.std.proofs.Common.{arith}
use Rattle.implib_read.proofs.Gathering.{each_at-end, each_at-stop, gathers-end, gathers-none, gathers-read}
use Rattle.implib_read.proofs.object.sections_at.Goals as goal

pub returns-in_default : goal.returns-in_default
returns-in_default c = grind (arith, gathers-none, each_at-stop, c.loop-left.invariant.0, c.loop-left-test.true)

pub loop-left-preserved : goal.loop-left-preserved
loop-left-preserved c = grind (arith, gathers-read, c.loop-left-test.true, c.in_ok-push.ensures.items, c.loop-left.invariant.0, c.loop-left.invariant.1)

pub returns : goal.returns
returns c = grind (arith, gathers-end, each_at-end, c.loop-left-test.false, c.loop-left.invariant.0)
