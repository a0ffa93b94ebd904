use Rattle.std.proofs.Common.{◌++◌, All, flat_map, length, map, take}
use Rattle.implib_archive.specs.Pushed.{Pushes}
use Rattle.implib_c_calls.specs.Encoding.{encoded_number}
use Rattle.implib_c_calls.specs.Imports.{Fits, encoded_row}
use Rattle.implib_c_calls.specs.ImportsAnswer.{row_view}
use Rattle.implib_c_calls.proofs.imports.push_rows.Given as goal

-- the rows are appended up to here, and their numbers fit
abbrev pub invariant-loop-row : goal.invariant-loop-row
invariant-loop-row l = Pushes l.fn.bytes.items l.bytes.items (encoded_number (length l.rows) ++ flat_map encoded_row (map row_view (take l.row-index l.rows)))
    × All (λ r. Fits (row_view r)) (take l.row-index l.rows)
