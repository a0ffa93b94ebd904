use Rattle.implib_tests.proofs.Read.DelayedLibraries.{worked_later}
use Rattle.implib_tests.proofs.reader.worked_later.Goals as goal

pub returns : goal.returns
returns c = worked_later
