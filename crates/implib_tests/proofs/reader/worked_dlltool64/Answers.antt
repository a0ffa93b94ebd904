use Rattle.implib_tests.proofs.Read.DelayedLibraries.{worked_dlltool64}
use Rattle.implib_tests.proofs.reader.worked_dlltool64.Goals as goal

pub returns : goal.returns
returns c = worked_dlltool64
