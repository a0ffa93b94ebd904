-- What a run of the program does (docs/CHECK.md).
use Rattle.std.specs.Prelude.{◌≡◌, ◌⊎◌, ℕ, Bool, List, Option}
use Rattle.std.specs.Io.KnownBytes.{Appends}
use Rattle.implib_check_driver.specs.Answer.{AnswerView, Fails}
use Rattle.implib_check_driver.specs.Answers.{Answers}

-- an answer is written, by what is on both streams before and after, and its status given
pub record IsWritten (a : AnswerView)
    (out_before out_after err_before err_after : Option (List ℕ)) (status : ℕ) : Type 0 where
  pub out : Appends out_before out_after a.out
  pub err : Appends err_before err_after a.err
  pub is : status ≡ a.status

-- A run writes one answer: that to the words of the command line, by what the files hold; or one of
-- status 3, where a file or a folder cannot be read.
pub record Runs (may_fail : List ℕ → Bool) (seen : List ℕ → Option (List ℕ))
    (listed : List ℕ → Option (List (List ℕ))) (words : List (List ℕ))
    (out_before out_after err_before err_after : Option (List ℕ)) (status : ℕ) : Type 0 where
  pub answer : AnswerView
  pub answers : Answers seen listed words answer ⊎ Fails may_fail answer
  pub written : IsWritten answer out_before out_after err_before err_after status
