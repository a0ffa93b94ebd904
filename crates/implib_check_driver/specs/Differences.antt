-- The answer to the call that compares two libraries (docs/CHECK.md).
use Rattle.std.specs.Prelude.{◌≡◌, Bool, true, List, ℕ, ◌++◌, None, Option, Some}
use Rattle.implib_compare.specs.Comparison.{verdict}
use Rattle.implib_compare.specs.Working.{both_work, working_of}
use Rattle.implib_read.specs.Archives.{Archive}
use Rattle.implib_read.specs.Classes.{MemberRead, members_read}
use Rattle.implib_check_driver.specs.Answer.{AnswerView, no_library}
use Rattle.implib_check_driver.specs.Listing.{broken_if_same, doubts}
use Rattle.implib_check_driver.specs.Status.{comparison_status}

-- The answer for the libraries of two files. Behind the lines of their differences stands why those
-- that are the same do not work.
pub record IsSame (json : Bool) (here there : List ℕ) (a : Archive) (left : List MemberRead)
    (b : Archive) (right : List MemberRead) (answer : AnswerView) : Type 0 where
  -- the lines of the differences
  pub differences : List ℕ
  pub status : answer.status ≡ comparison_status (verdict left right)
      (both_work (working_of a left) (working_of b right))
  pub out : answer.out ≡ differences ++ (broken_if_same (verdict left right) json here a left
      ++ broken_if_same (verdict left right) json there b right)
  pub err : answer.err ≡ doubts true here left ++ doubts true there right

-- the same for bytes, of which the first that are no library are told
abbrev pub IsSameAnswer : Bool → List ℕ → List ℕ → List ℕ → List ℕ → Option Archive →
    Option Archive → AnswerView → Type 0
IsSameAnswer json here there left right None second answer = answer ≡ no_library here left
IsSameAnswer json here there left right (Some a) None answer = answer ≡ no_library there right
IsSameAnswer json here there left right (Some a) (Some b) answer =
    IsSame json here there a (members_read a.members) b (members_read b.members) answer
