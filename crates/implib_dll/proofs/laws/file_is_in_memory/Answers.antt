use Rattle.implib_dll.proofs.InMemory.{file_is_in_memory}
use Rattle.implib_dll.proofs.laws.file_is_in_memory.Goals as goal

pub returns : goal.returns
returns c = file_is_in_memory
