use Rattle.implib_dll.proofs.WorkedBytes.{worked_memory}
use Rattle.implib_dll.proofs.laws.worked_memory.Goals as goal

pub returns : goal.returns
returns c = worked_memory
