use Rattle.std.proofs.Common.{refl}
use Rattle.implib.specs.Worked.Digits.{bytes_of_digits}
use Rattle.implib_dll.specs.Lookup.{order_at, searched}
use Rattle.implib_compare.specs.DllCheck.Missing.{missing_from}
use Rattle.implib_c_calls.specs.DllCheck.{dll_told_in, encoded_dll_told}
use Rattle.implib_c_calls.specs.Encoding.{encoded_number, items_in, list_in, number_in, then_in}
use Rattle.implib_c_calls.specs.WorkedDllCheck.{WorkedDllTold, WorkedDllToldBytes, small_told_bytes}
use Rattle.implib_c_calls.proofs.laws.worked_dll_checks.Goals as goal

told : WorkedDllTold
unfolding order_at searched missing_from
told = record {
  told = refl;
  renamed = refl;
}

bytes : WorkedDllToldBytes
unfolding bytes_of_digits dll_told_in encoded_dll_told encoded_number items_in list_in number_in small_told_bytes then_in
bytes = record {
  small = refl;
  none_read = refl;
}

pub returns : goal.returns
returns c = record { told = told; bytes = bytes }
