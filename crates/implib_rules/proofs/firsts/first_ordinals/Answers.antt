use Rattle.std.proofs.Common.{arith}
use Rattle.implib_rules.proofs.FirstExports.{ordinal_more}
use Rattle.implib_rules.proofs.firsts.first_ordinals.Goals as goal

pub loop-index-preserved : goal.loop-index-preserved
loop-index-preserved c = grind (arith, ordinal_more)
