use Rattle.implib_dll.proofs.WorkedBytes.{worked_refusals}
use Rattle.implib_dll.proofs.laws.worked_refusals.Goals as goal

pub returns : goal.returns
returns c = worked_refusals
