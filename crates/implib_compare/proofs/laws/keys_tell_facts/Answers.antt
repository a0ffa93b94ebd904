use Rattle.implib_compare.proofs.KeyTexts.{keys_tell_facts}
use Rattle.implib_compare.proofs.laws.keys_tell_facts.Goals as goal

pub returns : goal.returns
returns c = keys_tell_facts
