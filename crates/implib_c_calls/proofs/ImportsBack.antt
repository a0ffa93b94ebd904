-- Encoded rows read back.
use Rattle.std.proofs.Common.{ℕ, ◌≤◌, All, List, length, refl}
use Rattle.implib_c_calls.specs.Encoding.{ReadsBack}
use Rattle.implib_c_calls.specs.Imports.{Fits, Row, encoded_row, encoded_rows, row_in, rows_in}
use Rattle.implib_c_calls.proofs.ReadBack.{front_long, last_number, list_back_where, number_long, then_number, then_text}

row_back : (r : Row) (rest : List ℕ) → ReadsBack encoded_row row_in Fits r rest
unfolding row_in encoded_row
row_back r rest fit below =
    then_number _ r.kind _ rest fit.kind below (λ below.
    then_number _ r.offset _ rest fit.offset below (λ below.
    then_text _ r.dll _ rest below (λ below.
    then_text _ r.symbol _ rest below (λ below.
    then_number _ r.machine _ rest fit.machine below (λ below.
    then_number _ r.by_name _ rest fit.by_name below (λ below.
    then_text _ r.asked _ rest below (λ below.
    last_number _ r.number rest fit.number refl)))))))

row_long : (r : Row) → 1 ≤ length (encoded_row r)
unfolding encoded_row
row_long r = front_long _ _ (number_long r.kind)

pub rows_back : (rows : List Row) (rest : List ℕ) → ReadsBack encoded_rows rows_in (All Fits) rows rest
unfolding rows_in encoded_rows
rows_back rows rest fit below = list_back_where encoded_row row_in Fits row_back row_long rows rest fit below
