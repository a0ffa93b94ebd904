use Rattle.implib_arm64ec.proofs.WorkedLibraryImports.{worked_library_imports}
use Rattle.implib_arm64ec.proofs.laws.worked_library_imports.Goals as goal

pub returns : goal.returns
returns c = worked_library_imports
