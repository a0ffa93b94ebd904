use Rattle.implib_dll.proofs.WorkedBytes.{worked_imports}
use Rattle.implib_dll.proofs.laws.worked_imports.Goals as goal

pub returns : goal.returns
returns c = worked_imports
