use Rattle.implib_compare.proofs.Computed.{worked_working}
use Rattle.implib_compare.proofs.laws.worked_working.Goals as goal

pub returns : goal.returns
returns c = worked_working
