use Rattle.std.proofs.Common.{refl}
use Rattle.implib_dll.specs.Lookup.{order_at, searched}
use Rattle.implib_compare.specs.DllCheck.Forwarding.{end_by, split_last}
use Rattle.implib_compare.specs.DllCheck.WorkedForwarding.{WorkedForwarding}
use Rattle.implib_compare.proofs.dll_check.laws.worked_forwarding.Goals as goal

worked : WorkedForwarding
unfolding end_by order_at searched split_last
worked = record {
  last_stop = refl;
  first_stop = refl;
  at_end = refl;
  no_stop = refl;
  number = refl;
  no_number = refl;
  by_ordinal = refl;
  hole = refl;
  past = refl;
  no_hash = refl;
  nothing = refl;
  through_two = refl;
  through_three = refl;
  to_itself = refl;
  through_itself = refl;
  one_of_two = refl;
  to_data = refl;
  code_as_data = refl;
  circle = refl;
  no_such_ordinal = refl;
  to_hole = refl;
  unknown = refl;
  not_known = refl;
}

pub returns : goal.returns
returns c = worked
