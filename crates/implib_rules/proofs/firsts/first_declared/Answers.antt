use Rattle.std.proofs.Common.{arith}
use Rattle.implib_rules.proofs.FirstExports.{declared_private, declared_public}
use Rattle.implib_rules.proofs.firsts.first_declared.Goals as goal

pub loop-index-preserved : goal.loop-index-preserved
loop-index-preserved c = grind (arith, declared_public, declared_private)
