use Rattle.implib_read.proofs.OwnWorked.{worked_own_gnu_libraries}
use Rattle.implib_read.proofs.laws.worked_own_gnu_libraries.Goals as goal

pub returns : goal.returns
returns c = worked_own_gnu_libraries
