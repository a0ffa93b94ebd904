use Rattle.std.proofs.Common.{refl}
use Rattle.implib_c_calls.proofs.laws.worked_gaps.Goals as goal

pub returns : goal.returns
returns c = record { statuses = refl; flavors = refl; machines = refl; unknown_flag = refl }
