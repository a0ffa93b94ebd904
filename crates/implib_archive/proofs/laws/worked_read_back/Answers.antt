use Rattle.implib_archive.proofs.WorkedBytes.{worked_read_back}
use Rattle.implib_archive.proofs.laws.worked_read_back.Goals as goal

pub returns : goal.returns
returns c = worked_read_back
