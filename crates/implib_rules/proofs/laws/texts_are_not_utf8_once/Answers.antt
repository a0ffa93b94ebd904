use Rattle.implib_rules.proofs.Utf8.{not_utf8_once}
use Rattle.implib_rules.proofs.laws.texts_are_not_utf8_once.Goals as goal

pub returns : goal.returns
returns c = not_utf8_once
