use Rattle.implib_libraries.proofs.OfDll.Libraries.{libraries_ask_for_exports}
use Rattle.implib_libraries.proofs.of_dll.laws.libraries_ask_for_exports.Goals as goal

pub returns : goal.returns
returns c = libraries_ask_for_exports
