use Rattle.implib_tests.proofs.Read.DelayedLibraries.{worked_dlltool32}
use Rattle.implib_tests.proofs.reader.worked_dlltool32.Goals as goal

pub returns : goal.returns
returns c = worked_dlltool32
