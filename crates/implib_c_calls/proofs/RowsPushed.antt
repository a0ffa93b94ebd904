-- Rows that are appended, and what is told of a library with them.
use Rattle.std.proofs.Common.{◌≡◌, ◌∙◌, ℕ, ◌<◌, ◌^◌, All, List, [], ◌++◌, ap, arith, map, subst}
use Rattle.std.proofs.lemmas.List.Elements.{All-map}
use Rattle.implib_archive.specs.Pushed.{Pushes}
use Rattle.implib_archive.proofs.Appended.{pushes_then}
use Rattle.implib_compare.specs.declared.compare.Verdict.{Verdict}
use Rattle.implib_compare.specs.declared.compare.Verdict.TheVariants.{Same}
use Rattle.implib_compare.specs.declared.working.Working.{Working}
use Rattle.implib_compare.specs.declared.working.Working.TheVariants as working
use Rattle.implib_c_calls.specs.declared.imports.Row.{Row as FoundRow}
use Rattle.implib_c_calls.specs.Check.{ToldFits, encoded_told, verdict_number, working_number}
use Rattle.implib_c_calls.specs.Encoding.{encoded_list, encoded_number}
use Rattle.implib_c_calls.specs.Given.{IsEncoding}
use Rattle.implib_c_calls.specs.Imports.{Fits, Row, encoded_row, encoded_rows}
use Rattle.implib_c_calls.specs.ImportsAnswer.{row_view}

-- rows that are appended are these, and their numbers fit
pub record AreAppended (rows : List Row) (old new : List ℕ) : Type 0 where
  pub pushes : Pushes old new (encoded_rows rows)
  pub fit : All Fits rows

pub appended : (found : List FoundRow) (rows : List Row) (old new : List ℕ) → map row_view found ≡ rows → Pushes old new (encoded_list encoded_row (map row_view found))
    → All (λ r. Fits (row_view r)) found → AreAppended rows old new
unfolding encoded_rows
appended found rows old new is pushes fit = record {
  pushes = subst (λ t. Pushes old new (encoded_list encoded_row t)) is pushes;
  fit = subst (All Fits) is (All-map Fits row_view found fit);
}

-- rows alone are an encoding of rows
pub rows_alone : (rows : List Row) (old new : List ℕ) → old ≡ [] → AreAppended rows old new → IsEncoding encoded_rows (All Fits) rows new
rows_alone rows old new none are = record {
  is = are.pushes.whole ∙ ap (λ t. t ++ encoded_rows rows) none;
  fit = are.fit;
}

-- the numbers of what is told have 64 bits
verdict_small : (v : Verdict) → verdict_number v < 2 ^ 64
verdict_small Same = omega arith
verdict_small _ = omega arith

working_small : (w : Working) → working_number w < 2 ^ 64
working_small working.Works = omega arith
working_small _ = omega arith

-- two numbers, and rows after rows, are an encoding of what is told
pub told_appended : (v : Verdict) (w : Working) (extra missing : List Row) (a b c d e : List ℕ) → a ≡ [] → Pushes a b (encoded_number (verdict_number v)) → Pushes b c (encoded_number (working_number w))
    → AreAppended extra c d → AreAppended missing d e
    → IsEncoding encoded_told ToldFits (record { verdict = verdict_number v; works = working_number w; extra = extra; missing = missing }) e
unfolding encoded_told
told_appended v w extra missing a b c d e none first second third fourth =
    let all : _ = pushes_then first (pushes_then second (pushes_then third.pushes fourth.pushes)) in
    record {
      is = all.whole ∙ ap (λ t. t ++ (encoded_number (verdict_number v) ++ (encoded_number (working_number w) ++ (encoded_rows extra ++ encoded_rows missing)))) none;
      fit = record { verdict = verdict_small v; works = working_small w; extra = third.fit; missing = fourth.fit };
    }
