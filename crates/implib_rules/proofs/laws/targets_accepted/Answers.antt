use Rattle.implib_rules.proofs.Accepted.{target_accepted}
use Rattle.implib_rules.proofs.laws.targets_accepted.Goals as goal

pub returns : goal.returns
returns c = target_accepted
