use Rattle.implib_libraries.proofs.FromDll.Found.{names_are_asked}
use Rattle.implib_libraries.proofs.from_dll.laws.names_are_asked.Goals as goal

pub returns : goal.returns
returns c = names_are_asked
