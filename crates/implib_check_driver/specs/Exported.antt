-- The answer to the call that lists the exports of a DLL (docs/CHECK.md).
use Rattle.std.specs.Prelude.{◌≡◌, ℕ, List, [], Err, None, Ok, Option, Some, codes}
use Rattle.implib_dll.specs.Exports.{Exports}
use Rattle.implib_dll.specs.Outcome.{Read}
use Rattle.implib_check_driver.specs.Answer.{AnswerView, IsSaid, saying}

-- the answer to bytes that are no DLL with exports
abbrev pub IsNoDll : List ℕ → Read (Option Exports) → AnswerView → Type 0
IsNoDll path (Ok (Some e)) a = ⊥
IsNoDll path (Ok None) a = a ≡ saying 1 path (codes "exports nothing")
IsNoDll path (Err fault) a = IsSaid 1 path a

-- an answer of lines on standard output alone
pub record IsLines (a : AnswerView) : Type 0 where
  pub lines : List ℕ
  pub is : a ≡ record { status = 0; out = lines; err = [] }

-- The answer for a DLL, as its bytes are read.
abbrev pub IsExportsAnswer : List ℕ → Read (Option Exports) → AnswerView → Type 0
IsExportsAnswer path (Ok (Some e)) a = IsLines a
IsExportsAnswer path (Ok None) a = IsNoDll path (Ok None) a
IsExportsAnswer path (Err fault) a = IsNoDll path (Err fault) a
