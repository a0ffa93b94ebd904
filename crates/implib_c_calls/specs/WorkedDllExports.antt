-- What DLLs export, worked by hand, and a buffer that is read.
use Rattle.std.specs.Prelude.{◌≡◌, None}
use Rattle.implib.specs.Worked.Digits.{hex}
use Rattle.implib_dll.specs.Exports.{Address}
use Rattle.implib_dll.specs.declared.section.AddressKind.TheVariants.{Outside}
use Rattle.implib_c_calls.specs.DllExports.{dll_in}
use Rattle.implib_c_calls.specs.DllExports.{target_address, target_number}

-- an address outside of sections, and bytes that are no encoding
pub record WorkedDllExports : Type 0 where
  pub outside : target_number (Address 0x1000 Outside) ≡ 3
  pub address_outside : target_address (Address 0x12345678 Outside) ≡ 0x12345678
  pub none_read : dll_in (hex "64 86 00 00 00 00 00 00 00 00 00 00 00 00 00 00 01 00 00 00 00 00 00 00") ≡ None
