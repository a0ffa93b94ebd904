use Rattle.std.proofs.Common.{refl}
use Rattle.implib_dll.specs.Lookup.{order_at, searched}
use Rattle.implib_compare.specs.DllCheck.Forwarding.{split_last}
use Rattle.implib_system.specs.System.{address_by, bytes_of}
use Rattle.implib_system.specs.Worked.{WorkedSystem}
use Rattle.implib_system.proofs.laws.worked_system.Goals as goal

worked : WorkedSystem
unfolding address_by bytes_of order_at searched split_last
worked = record {
  by_name = refl;
  no_such_dll = refl;
  ending = refl;
  code = refl;
  searched = refl;
  variable = refl;
  hole = refl;
  no_name = refl;
  of_none = refl;
  forwarder = refl;
  through_two = refl;
  through_one = refl;
  from_second = refl;
  circle = refl;
  to_no_dll = refl;
  no_full_stop = refl;
  bytes = refl;
  long = refl;
  cut = refl;
  zeros = refl;
  written = refl;
}

pub returns : goal.returns
returns c = worked
