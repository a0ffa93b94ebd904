use Rattle.implib_archive.proofs.WorkedBytes.{worked_refusals}
use Rattle.implib_archive.proofs.laws.worked_refusals.Goals as goal

pub returns : goal.returns
returns c = worked_refusals
