use Rattle.std.proofs.Common.{arith}
use Rattle.implib_rules.proofs.FirstExports.{word_more}
use Rattle.implib_rules.proofs.firsts.first_words.Goals as goal

pub loop-index-preserved : goal.loop-index-preserved
loop-index-preserved c = grind (arith, word_more)
