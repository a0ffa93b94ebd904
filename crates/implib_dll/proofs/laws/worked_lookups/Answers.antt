use Rattle.implib_dll.proofs.WorkedBytes.{worked_lookups}
use Rattle.implib_dll.proofs.laws.worked_lookups.Goals as goal

pub returns : goal.returns
returns c = worked_lookups
