use Rattle.implib_libraries.proofs.OfDll.Libraries.{decorated_libraries_ask_for_exports}
use Rattle.implib_libraries.proofs.of_dll.laws.decorated_libraries_ask_for_exports.Goals as goal

pub returns : goal.returns
returns c = decorated_libraries_ask_for_exports
