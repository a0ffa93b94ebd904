use Rattle.std.proofs.Common.{refl}
use Rattle.implib_compare.specs.DllCheck.WorkedFolders.{WorkedFolders}
use Rattle.implib_compare.proofs.dll_check.laws.worked_folders.Goals as goal

worked : WorkedFolders
worked = record {
  first = refl;
  second = refl;
  none = refl;
  absent = λ file. refl;
  held = refl;
  empty = refl;
}

pub returns : goal.returns
returns c = worked
