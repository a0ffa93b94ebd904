use Rattle.implib_read.proofs.WorkedBytes.{worked_indexes}
use Rattle.implib_read.proofs.laws.worked_indexes.Goals as goal

pub returns : goal.returns
returns c = worked_indexes
