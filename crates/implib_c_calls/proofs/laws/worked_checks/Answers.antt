use Rattle.std.proofs.Common.{refl}
use Rattle.implib.specs.Worked.Digits.{bytes_of_digits}
use Rattle.implib_c_calls.specs.Check.{encoded_told, told_in}
use Rattle.implib_c_calls.specs.Encoding.{bytes_in, encoded_number, items_in, list_in, number_in, text_in, then_in}
use Rattle.implib_c_calls.specs.Imports.{encoded_row, encoded_rows, row_in, rows_in}
use Rattle.implib_c_calls.specs.WorkedCheck.{WorkedTold, WorkedToldBytes, two_apart_bytes}
use Rattle.implib_c_calls.specs.WorkedImports.{bar_row_bytes, old_row_bytes}
use Rattle.implib_c_calls.proofs.laws.worked_checks.Goals as goal

told : WorkedTold
told = record {
  nothing = refl;
  beside_nothing = refl;
  not_understood = refl;
}

bytes : WorkedToldBytes
unfolding bar_row_bytes bytes_in bytes_of_digits encoded_number encoded_row encoded_rows encoded_told items_in list_in number_in old_row_bytes row_in rows_in text_in told_in two_apart_bytes then_in
bytes = record {
  apart = refl;
  second_list_missing = refl;
}

pub returns : goal.returns
returns c = record { told = told; works_not_decided = refl; bytes = bytes }
