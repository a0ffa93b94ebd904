use Rattle.implib_tests.proofs.Read.MoreLibraries.{worked_winebuild}
use Rattle.implib_tests.proofs.reader.worked_winebuild.Goals as goal

pub returns : goal.returns
returns c = worked_winebuild
