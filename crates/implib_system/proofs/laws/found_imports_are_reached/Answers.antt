use Rattle.implib_system.proofs.System.{found_reached}
use Rattle.implib_system.proofs.laws.found_imports_are_reached.Goals as goal

pub returns : goal.returns
returns c = found_reached
