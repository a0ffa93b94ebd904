use Rattle.std.proofs.Common.{refl}
use Rattle.std.specs.Fmt.{digits}
use Rattle.implib_dll.specs.Lookup.{order_at, searched}
use Rattle.implib_compare.specs.DllCheck.Missing.{missing_from}
use Rattle.implib_libraries.specs.FromDll.Definition.{named_from}
use Rattle.implib_compare.specs.DllCheck.Worked.{WorkedVerdicts}
use Rattle.implib_compare.proofs.dll_check.laws.worked_verdicts.Goals as goal

worked : WorkedVerdicts
unfolding order_at searched missing_from named_from digits
worked = record {
  missed = refl;
  not_missed = refl;
  code_as_data = refl;
  past = refl;
  in_vain = refl;
  capitals = refl;
  no_ending = refl;
  other_ending = refl;
  ends_in_a_full_stop = refl;
}

pub returns : goal.returns
returns c = worked
