use Rattle.implib.proofs.Members.Asked.{asks_for_words}
use Rattle.implib.proofs.laws.asked.asked_is_word.Goals as goal

pub returns : goal.returns
returns c = λ definition parsed. asks_for_words c.args.text.now c.args.machine definition parsed
