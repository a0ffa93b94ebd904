use Rattle.implib_rules.proofs.PlainStays as stays
use Rattle.implib_rules.proofs.laws.plain_texts_stay.Goals as goal

pub returns : goal.returns
returns c = stays.plain_texts_stay
