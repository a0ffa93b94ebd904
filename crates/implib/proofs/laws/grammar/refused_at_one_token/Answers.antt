use Rattle.implib.proofs.Text.OneReading.{one_offset, refused_somewhere}
use Rattle.implib.proofs.Text.RefusedWithin.{refused_within}
use Rattle.implib.proofs.Text.TokenReader.{Refuses-from_At}
use Rattle.implib.proofs.laws.grammar.refused_at_one_token.Goals as goal

pub returns : goal.returns
returns c = record {
  somewhere = λ cause. refused_somewhere c.args.text.now cause;
  refused = λ cause offset. Refuses-from_At c.args.text.now cause offset;
  one_offset = λ cause other offset at. one_offset c.args.text.now c.utf8.text cause other offset at;
  within = λ cause offset. refused_within c.args.text.now cause offset;
}
