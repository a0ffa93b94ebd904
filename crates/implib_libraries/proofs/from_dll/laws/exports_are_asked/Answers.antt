use Rattle.implib_libraries.proofs.FromDll.Found.{exports_are_asked}
use Rattle.implib_libraries.proofs.from_dll.laws.exports_are_asked.Goals as goal

pub returns : goal.returns
returns c = exports_are_asked
