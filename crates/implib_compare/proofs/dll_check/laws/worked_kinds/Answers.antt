use Rattle.std.proofs.Common.{refl}
use Rattle.std.specs.Fmt.{digits}
use Rattle.implib_dll.specs.Lookup.{order_at, searched}
use Rattle.implib_compare.specs.DllCheck.Forwarding.{end_by, split_last}
use Rattle.implib_compare.specs.DllCheck.Kinds.{last_target}
use Rattle.implib_compare.specs.DllCheck.WorkedKinds.{WorkedKinds}
use Rattle.implib_libraries.specs.FromDll.Definition.{named_from}
use Rattle.implib_compare.proofs.dll_check.laws.worked_kinds.Goals as goal

worked : WorkedKinds
unfolding end_by order_at searched split_last named_from digits last_target
worked = record {
  followed = refl;
  astray = refl;
  by_itself = refl;
  unknown = refl;
  other_machine = refl;
  refused = refl;
  hole = refl;
  last = refl;
  one_of_two = refl;
  in_circle = refl;
  circle_last = refl;
}

pub returns : goal.returns
returns c = worked
