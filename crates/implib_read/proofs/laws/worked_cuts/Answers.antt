use Rattle.implib_read.proofs.WorkedBytes.{worked_cuts}
use Rattle.implib_read.proofs.laws.worked_cuts.Goals as goal

pub returns : goal.returns
returns c = worked_cuts
