use Rattle.implib_read.proofs.WorkedBytes.{worked_symbols}
use Rattle.implib_read.proofs.laws.worked_symbols.Goals as goal

pub returns : goal.returns
returns c = worked_symbols
