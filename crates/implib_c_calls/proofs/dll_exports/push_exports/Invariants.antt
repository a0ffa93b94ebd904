use Rattle.std.proofs.Common.{◌++◌, All, flat_map, length, map, take}
use Rattle.implib_archive.specs.Pushed.{Pushes}
use Rattle.implib_c_calls.specs.DllExports.{ExportFits, encoded_export}
use Rattle.implib_c_calls.specs.DllExportsAnswer.{export_row_found}
use Rattle.implib_c_calls.specs.Encoding.{encoded_number}
use Rattle.implib_c_calls.proofs.dll_exports.push_exports.Given as goal

-- the ordinals are appended up to here, and their numbers fit
abbrev pub invariant-loop-row : goal.invariant-loop-row
invariant-loop-row l = Pushes l.fn.bytes.items l.bytes.items (encoded_number (length l.rows) ++ flat_map encoded_export (map export_row_found (take l.row-index l.rows)))
    × All (λ r. ExportFits (export_row_found r)) (take l.row-index l.rows)
