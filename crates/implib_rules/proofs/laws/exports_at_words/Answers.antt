use Rattle.implib_rules.proofs.PlacesHeard.{at_words}
use Rattle.implib_rules.proofs.laws.exports_at_words.Goals as goal

pub returns : goal.returns
returns c = at_words
