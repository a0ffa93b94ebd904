use Rattle.implib_archive.proofs.WorkedBytes.{worked_archives}
use Rattle.implib_archive.proofs.laws.worked_archives.Goals as goal

pub returns : goal.returns
returns c = worked_archives
