use Rattle.implib.proofs.Text.OneReading.{either, never_both, one_definition, one_cause}
use Rattle.implib.proofs.laws.grammar.grammar_or_broken.Goals as goal

pub returns : goal.returns
returns c = record {
  either = either c.args.text.now c.utf8.text;
  never_both = λ machine definition cause. never_both c.args.text.now c.utf8.text machine definition cause;
  one_definition = λ machine definition other. one_definition c.args.text.now c.utf8.text machine definition other;
  one_cause = λ cause other. one_cause c.args.text.now c.utf8.text cause other;
}
