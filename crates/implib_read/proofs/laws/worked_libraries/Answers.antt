use Rattle.implib_read.proofs.WorkedBytes.{worked_libraries}
use Rattle.implib_read.proofs.laws.worked_libraries.Goals as goal

pub returns : goal.returns
returns c = worked_libraries
