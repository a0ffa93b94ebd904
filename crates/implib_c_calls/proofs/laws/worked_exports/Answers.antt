use Rattle.std.proofs.Common.{refl}
use Rattle.implib_c_calls.proofs.laws.worked_exports.Goals as goal

pub returns : goal.returns
returns c = record { constant_flag = refl; private_flag = refl; nameless = refl }
