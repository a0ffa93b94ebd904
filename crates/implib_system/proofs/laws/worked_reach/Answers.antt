use Rattle.std.proofs.Common.{refl}
use Rattle.implib_dll.specs.Lookup.{order_at, searched}
use Rattle.implib_compare.specs.DllCheck.Forwarding.{split_last}
use Rattle.implib_system.specs.System.{address_by}
use Rattle.implib_system.specs.Worked.{WorkedReach}
use Rattle.implib_system.proofs.laws.worked_reach.Goals as goal

worked : WorkedReach
unfolding address_by order_at searched split_last
worked = record {
  own = record { i = 0; j = 0; table = _; entry = _; at = refl; of = refl; named = refl; reached = refl };
  through_two = record { i = 0; j = 1; table = _; entry = _; at = refl; of = refl; named = refl; reached = refl };
  through_one = record { i = 1; j = 0; table = _; entry = _; at = refl; of = refl; named = refl; reached = refl };
}

pub returns : goal.returns
returns c = worked
