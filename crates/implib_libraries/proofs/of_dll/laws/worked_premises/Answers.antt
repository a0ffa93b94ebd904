use Rattle.std.proofs.Common.{refl, arith}
use Rattle.std.specs.Fmt.{digits}
use Rattle.implib_libraries.specs.FromDll.Definition.{named_from}
use Rattle.implib_libraries.specs.OfDll.Worked.{WorkedPremises}
use Rattle.implib_libraries.proofs.of_dll.laws.worked_premises.Goals as goal

worked : WorkedPremises
unfolding named_from digits
worked = record {
  fits = record { base = omega arith; targets = omega arith };
  fits_largest = record { base = omega arith; targets = omega arith };
  msvc = record { whole = refl; no_third_text = refl; nothing_added = refl };
  gnu = record { whole = refl; no_third_text = refl; nothing_added = refl };
  differ = refl;
  differ_unnamed = refl;
  twice = refl;
  taken = refl;
  unread = λ read. cc;
  no_head = λ reads. let wrong = reads.tail_read in cc;
}

pub returns : goal.returns
returns c = worked
