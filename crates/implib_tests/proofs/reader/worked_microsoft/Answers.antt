use Rattle.implib_tests.proofs.Read.MoreLibraries.{worked_microsoft}
use Rattle.implib_tests.proofs.reader.worked_microsoft.Goals as goal

pub returns : goal.returns
returns c = worked_microsoft
