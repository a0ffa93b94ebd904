use Rattle.std.proofs.Common.{refl}
use Rattle.implib_dll.specs.Lookup.{order_at, searched}
use Rattle.implib_compare.specs.DllCheck.WorkedImports.{WorkedImports}
use Rattle.implib_compare.proofs.dll_check.laws.worked_imports.Goals as goal

worked : WorkedImports
unfolding order_at searched
worked = record {
  past = refl;
  missed = refl;
  not_missed = refl;
  as_constant = refl;
  as_either = refl;
  as_delayed = refl;
  code_as_data = refl;
  capitals = refl;
  no_ending = refl;
  other_ending = refl;
  second = refl;
  of_none = refl;
  asked = refl;
  asked_of_both = refl;
}

pub returns : goal.returns
returns c = worked
