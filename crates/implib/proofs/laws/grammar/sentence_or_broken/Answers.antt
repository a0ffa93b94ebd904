use Rattle.implib.proofs.Text.OneReading.{either_of, never_both_of, one_list, one_cause_of}
use Rattle.std.proofs.Common.{refl}
use Rattle.implib.proofs.laws.grammar.sentence_or_broken.Goals as goal

pub returns : goal.returns
returns c = record {
  either = either_of;
  never_both = λ tokens statements cause. never_both_of tokens tokens statements cause refl;
  one_list = one_list;
  one_cause = one_cause_of;
}
