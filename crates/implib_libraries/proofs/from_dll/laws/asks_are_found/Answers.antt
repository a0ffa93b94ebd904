use Rattle.implib_libraries.proofs.FromDll.Found.{asks_are_found}
use Rattle.implib_libraries.proofs.from_dll.laws.asks_are_found.Goals as goal

pub returns : goal.returns
returns c = asks_are_found
