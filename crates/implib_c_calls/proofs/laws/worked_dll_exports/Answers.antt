use Rattle.std.proofs.Common.{refl}
use Rattle.implib.specs.Worked.Digits.{bytes_of_digits}
use Rattle.implib_c_calls.specs.DllExports.{dll_in, export_row_in}
use Rattle.implib_c_calls.specs.Encoding.{bytes_in, items_in, list_in, number_in, text_in, then_in}
use Rattle.implib_c_calls.proofs.laws.worked_dll_exports.Goals as goal

pub returns : goal.returns
unfolding bytes_in bytes_of_digits dll_in export_row_in items_in list_in number_in text_in then_in
returns c = record { outside = refl; address_outside = refl; none_read = refl }
