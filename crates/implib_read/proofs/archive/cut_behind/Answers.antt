use Rattle.std.proofs.Common.{arith}
use Rattle.std.proofs.lemmas.Grind.{common_steps}
use Rattle.std.proofs.lemmas.List.{nil_from_length}
use Rattle.implib_read.proofs.CutParts.{cut_more, cut_nothing, cut_stop}
use Rattle.implib_read.proofs.archive.cut_behind.Goals as goal

pub returns-in_default : goal.returns-in_default
returns-in_default c = grind (arith, cut_stop, c.loop-rest-test.true, c.loop-rest.invariant.0)

pub loop-rest-preserved : goal.loop-rest-preserved
loop-rest-preserved c = grind (arith, cut_more, common_steps, c.loop-rest-test.true, c.loop-rest.invariant.1, c.behind-rest-in-loop-rest.ensures, c.loop-rest.invariant.0)

pub returns : goal.returns
returns c = grind (arith, nil_from_length, cut_nothing, c.loop-rest.invariant.0)
