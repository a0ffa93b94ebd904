use Rattle.std.proofs.Common.{refl}
use Rattle.implib_driver.proofs.laws.stubs_told.Goals as goal

pub returns : goal.returns
returns c = record { members = refl; machines = refl; microsofts = refl }
