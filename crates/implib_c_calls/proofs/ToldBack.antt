-- What is told of a library beside a definition's reads back.
use Rattle.std.proofs.Common.{ℕ, All, List, refl}
use Rattle.implib_c_calls.specs.Check.{ToldFits, Told, encoded_told, told_in}
use Rattle.implib_c_calls.specs.Encoding.{ReadsBack}
use Rattle.implib_c_calls.specs.Imports.{Fits, encoded_rows, rows_in}
use Rattle.implib_c_calls.proofs.ImportsBack.{rows_back}
use Rattle.implib_c_calls.proofs.ReadBack.{last_back, then_back, then_number}

pub told_back : (t : Told) (rest : List ℕ) → ReadsBack encoded_told told_in ToldFits t rest
unfolding told_in encoded_told
told_back t rest fit below =
    then_number _ t.verdict _ rest fit.verdict below (λ below.
    then_number _ t.works _ rest fit.works below (λ below.
    then_back encoded_rows rows_in (All Fits) rows_back _ t.extra _ rest fit.extra below (λ below.
    last_back encoded_rows rows_in (All Fits) rows_back _ t.missing rest fit.missing below refl)))
