-- What is told of a library beside the library of a definition, how this is encoded for C, and how
-- an encoding is read (this project's choice). How two libraries are compared, and when one works,
-- is `implib_compare`'s.
use Rattle.std.specs.Prelude.{ℕ, ◌<◌, ◌^◌, All, Bool, List, [], ◌∷◌, ◌++◌, Option}
use Rattle.std.specs.Prelude.{if◌then◌else◌, map}
use Rattle.implib_compare.specs.Comparison.{differing, verdict}
use Rattle.implib_compare.specs.Facts.{both_tell}
use Rattle.implib_compare.specs.Working.{working_of}
use Rattle.implib_compare.specs.declared.compare.Verdict.{Verdict}
use Rattle.implib_compare.specs.declared.compare.Verdict.TheVariants.{Different, NotDecided, Same}
use Rattle.implib_compare.specs.declared.working.Working.{Working}
use Rattle.implib_compare.specs.declared.working.Working.TheVariants as working
use Rattle.implib_read.specs.Archives.{Archive}
use Rattle.implib_read.specs.Classes.{MemberRead}
use Rattle.implib_c_calls.specs.Encoding.{encoded_number, found, number_in, then_in}
use Rattle.implib_c_calls.specs.Imports.{Fits, Row, encoded_rows, row_of, rows_in}

-- What is told: the number of the verdict, that of whether the library works, the members of the
-- library that differ, and those of the definition's library that do.
pub record Told : Type 0 where
  pub verdict : ℕ
  pub works : ℕ
  pub extra : List Row
  pub missing : List Row

-- the number of a verdict
abbrev pub verdict_number : Verdict → ℕ
verdict_number Same = 1
verdict_number Different = 2
verdict_number NotDecided = 3

-- the number of whether a library works
abbrev pub working_number : Working → ℕ
working_number working.Works = 1
working_number working.Broken = 2
working_number working.NotDecided = 3

-- the rows whose flag is set, in order
abbrev pub flagged : List Bool → List Row → List Row
flagged [] rows = []
flagged (flag ∷ flags) [] = []
flagged (flag ∷ flags) (row ∷ rows) = if flag then row ∷ flagged flags rows else flagged flags rows

-- What is told of a library, by its archive and its members, beside the members of the definition's
-- library: of each its members that say what no member of the other does that is left for it.
abbrev pub told_of : Archive → List MemberRead → List MemberRead → Told
told_of archive members meant = record {
  verdict = verdict_number (verdict members meant);
  works = working_number (working_of archive members);
  extra = flagged (differing (both_tell members meant) members meant) (map row_of members);
  missing = flagged (differing (both_tell members meant) meant members) (map row_of meant);
}

-- What is written: the two numbers, and the two lists.
unfoldable pub encoded_told : Told → List ℕ
encoded_told t =
    encoded_number t.verdict
    ++ (encoded_number t.works
    ++ (encoded_rows t.extra
    ++ encoded_rows t.missing))

-- How it is read: what is told at the front of a buffer, and what follows it.
unfoldable pub told_in : List ℕ → Option (Told × List ℕ)
told_in =
    then_in number_in
    (λ verdict. then_in number_in
    (λ works. then_in rows_in
    (λ extra. then_in rows_in
    (λ missing. found (record {
      verdict = verdict;
      works = works;
      extra = extra;
      missing = missing;
    })))))

-- the numbers have 64 bits
pub record ToldFits (t : Told) : Type 0 where
  pub verdict : t.verdict < 2 ^ 64
  pub works : t.works < 2 ^ 64
  pub extra : All Fits t.extra
  pub missing : All Fits t.missing
