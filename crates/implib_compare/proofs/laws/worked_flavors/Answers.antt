use Rattle.implib_compare.proofs.Computed.{worked_flavors}
use Rattle.implib_compare.proofs.laws.worked_flavors.Goals as goal

pub returns : goal.returns
returns c = worked_flavors
