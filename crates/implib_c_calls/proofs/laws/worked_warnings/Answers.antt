use Rattle.std.proofs.Common.{refl}
use Rattle.implib.specs.Worked.Digits.{bytes_of_digits}
use Rattle.implib_c_calls.specs.Encoding.{bytes_in, items_in, list_in, number_in, text_in, then_in}
use Rattle.implib_c_calls.specs.Warnings.{said_in, warnings_in}
use Rattle.implib_c_calls.proofs.laws.worked_warnings.Goals as goal

pub returns : goal.returns
unfolding bytes_of_digits bytes_in items_in list_in number_in said_in text_in warnings_in then_in
returns c = record {
  warning_missing = refl;
  behind_mark = refl;
  kinds = λ word ordinal first attribute. refl;
}
