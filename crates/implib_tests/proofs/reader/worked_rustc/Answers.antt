use Rattle.implib_tests.proofs.Read.MoreLibraries.{worked_rustc}
use Rattle.implib_tests.proofs.reader.worked_rustc.Goals as goal

pub returns : goal.returns
returns c = worked_rustc
