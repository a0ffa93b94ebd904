use Rattle.implib_dll.proofs.ExportsInMemory.{exports_lie_in_memory}
use Rattle.implib_dll.proofs.laws.exports_lie_in_memory.Goals as goal

pub returns : goal.returns
returns c = exports_lie_in_memory
