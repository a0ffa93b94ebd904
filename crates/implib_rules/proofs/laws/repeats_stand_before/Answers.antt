use Rattle.implib_rules.proofs.FirstExports.{ordinal_repeated, word_repeated}
use Rattle.implib_rules.proofs.laws.repeats_stand_before.Goals as goal

pub returns : goal.returns
returns c = record { words = word_repeated; ordinals = ordinal_repeated }
