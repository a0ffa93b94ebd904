use Rattle.std.proofs.Common.{refl}
use Rattle.std.specs.Fmt.{digits}
use Rattle.implib_libraries.specs.FromDll.Definition.{named_from}
use Rattle.implib_libraries.specs.FromDll.Worked.{WorkedExports}
use Rattle.implib_libraries.proofs.from_dll.laws.worked_exports.Goals as goal

worked : WorkedExports
unfolding named_from digits
worked = record {
  whole = refl;
  unsorted = refl;
  outside = refl;
  holes = refl;
  asks = refl;
  other_hint = λ is. cc;
  hint_past = λ is. cc;
}

pub returns : goal.returns
returns c = worked
