use Rattle.implib_rules.proofs.InOrder.{in_order}
use Rattle.implib_rules.proofs.laws.warnings_in_order.Goals as goal

pub returns : goal.returns
returns c = in_order
