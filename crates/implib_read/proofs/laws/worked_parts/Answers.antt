use Rattle.implib_read.proofs.WorkedBytes.{worked_parts}
use Rattle.implib_read.proofs.laws.worked_parts.Goals as goal

pub returns : goal.returns
returns c = worked_parts
