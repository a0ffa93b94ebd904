use Rattle.implib_read.proofs.WorkedBytes.{worked_names}
use Rattle.implib_read.proofs.laws.worked_names.Goals as goal

pub returns : goal.returns
returns c = worked_names
