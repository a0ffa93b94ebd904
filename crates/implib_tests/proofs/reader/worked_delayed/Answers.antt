use Rattle.implib_tests.proofs.Read.MoreLibraries.{worked_delayed}
use Rattle.implib_tests.proofs.reader.worked_delayed.Goals as goal

pub returns : goal.returns
returns c = worked_delayed
