use Rattle.std.proofs.Common.{refl}
use Rattle.implib_dll.specs.Lookup.{order_at, searched}
use Rattle.implib_compare.specs.DllCheck.WorkedPrograms.{WorkedPrograms}
use Rattle.implib_compare.proofs.dll_check.laws.worked_programs.Goals as goal

worked : WorkedPrograms
unfolding order_at searched
worked = record {
  variable = refl;
  past = refl;
  missed = refl;
  last_lost = refl;
  first_lost = refl;
}

pub returns : goal.returns
returns c = worked
