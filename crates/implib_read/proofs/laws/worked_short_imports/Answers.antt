use Rattle.implib_read.proofs.WorkedBytes.{worked_short_imports}
use Rattle.implib_read.proofs.laws.worked_short_imports.Goals as goal

pub returns : goal.returns
returns c = worked_short_imports
