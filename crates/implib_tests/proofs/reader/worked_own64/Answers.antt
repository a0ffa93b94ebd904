use Rattle.implib_tests.proofs.Read.DelayedLibraries.{worked_own64}
use Rattle.implib_tests.proofs.reader.worked_own64.Goals as goal

pub returns : goal.returns
returns c = worked_own64
