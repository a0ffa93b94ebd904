use Rattle.implib_read.proofs.WorkedBytes.{worked_changes}
use Rattle.implib_read.proofs.laws.worked_changes.Goals as goal

pub returns : goal.returns
returns c = worked_changes
