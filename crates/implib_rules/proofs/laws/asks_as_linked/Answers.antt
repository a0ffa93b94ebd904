use Rattle.implib_rules.proofs.Asked.{asks_as_linked}
use Rattle.implib_rules.proofs.laws.asks_as_linked.Goals as goal

pub returns : goal.returns
returns c = asks_as_linked
