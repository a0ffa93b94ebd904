use Rattle.std.proofs.Common.{ap, map, refl}
use Rattle.std.specs.Option.{option_map}
use Rattle.implib.specs.Worked.Digits.{bytes_of_digits}
use Rattle.implib_read.specs.Archives.{archive_in, parts_from, parts_in}
use Rattle.implib_read.specs.Classes.{library_in, members_read}
use Rattle.implib_read.proofs.WorkedBytes.{worked_libraries}
use Rattle.implib_c_calls.specs.Encoding.{bytes_in, encoded_number, items_in, list_in, number_in, text_in, then_in}
use Rattle.implib_c_calls.specs.Imports.{encoded_row, encoded_rows, row_in, row_of, rows_in}
use Rattle.implib_c_calls.specs.WorkedImports.{WorkedRowBytes, WorkedRows, bar_row_bytes, old_row_bytes, two_rows_bytes}
use Rattle.implib_c_calls.proofs.laws.worked_imports.Goals as goal

rows : WorkedRows
unfolding archive_in library_in members_read parts_from parts_in
rows = record {
  ld = ap (option_map (map row_of)) worked_libraries.ld;
  an_alias = refl;
  delayed = refl;
  other = refl;
  not_understood = refl;
}

bytes : WorkedRowBytes
unfolding bar_row_bytes bytes_in bytes_of_digits encoded_number encoded_row encoded_rows items_in list_in number_in old_row_bytes row_in rows_in text_in two_rows_bytes then_in
bytes = record {
  two = refl;
  row_missing = refl;
}

pub returns : goal.returns
returns c = record {
  rows = rows;
  kinds = refl;
  bytes = bytes;
}
