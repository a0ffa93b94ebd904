use Rattle.implib_rules.proofs.BothFlavors.{asks_alike}
use Rattle.implib_rules.proofs.laws.flavors_ask_alike.Goals as goal

pub returns : goal.returns
returns c = asks_alike
