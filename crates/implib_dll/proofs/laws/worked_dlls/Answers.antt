use Rattle.implib_dll.proofs.WorkedBytes.{worked_dlls}
use Rattle.implib_dll.proofs.laws.worked_dlls.Goals as goal

pub returns : goal.returns
returns c = worked_dlls
