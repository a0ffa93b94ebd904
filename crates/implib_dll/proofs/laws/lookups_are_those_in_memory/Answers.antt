use Rattle.implib_dll.proofs.LookupInMemory.{lookups_are_those_in_memory}
use Rattle.implib_dll.proofs.laws.lookups_are_those_in_memory.Goals as goal

pub returns : goal.returns
returns c = lookups_are_those_in_memory
