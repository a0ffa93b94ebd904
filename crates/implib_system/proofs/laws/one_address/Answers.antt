use Rattle.implib_system.proofs.System.{agree}
use Rattle.implib_system.proofs.laws.one_address.Goals as goal

pub returns : goal.returns
returns c = agree
