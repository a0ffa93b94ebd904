use Rattle.implib_read.proofs.WorkedBytes.{worked_arm64ec_imports, worked_ec_indexes, worked_unmarked}
use Rattle.implib_read.proofs.laws.worked_arm64ec.Goals as goal

pub returns : goal.returns
returns c = record { unmarked = worked_unmarked; imports = worked_arm64ec_imports; indexes = worked_ec_indexes }
