use Rattle.implib_dll.proofs.WorkedBytes.{worked_files}
use Rattle.implib_dll.proofs.laws.worked_files.Goals as goal

pub returns : goal.returns
returns c = worked_files
