use Rattle.std.proofs.Common.{refl}
use Rattle.implib.specs.Worked.Digits.{bytes_of_digits}
use Rattle.implib_c_calls.proofs.laws.worked_places.Goals as goal

pub returns : goal.returns
unfolding bytes_of_digits
returns c = record {
  line_feed = refl;
  second_line = refl;
  end = refl;
  behind_the_end = refl;
  in_a_comment = refl;
  in_a_mark = refl;
  lines_after_a_mark = refl;
  marked = refl;
  mark_alone = refl;
  half_a_mark = refl;
  unmarked = refl;
}
