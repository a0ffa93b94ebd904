-- What a writer has after an error. This crate writes no file; those above it do, and say it of
-- theirs.
use Rattle.std.specs.Prelude.{◌≡◌, ℕ, List, ◌++◌, Option}
use Rattle.std.specs.Io.KnownBytes.{Appends}

-- a writer took a beginning of the bytes, perhaps none or all of them, if what it has is known
pub record AppendsBeginning (before after : Option (List ℕ)) (bytes : List ℕ) : Type 0 where
  pub taken : List ℕ
  pub left : List ℕ
  pub whole : bytes ≡ taken ++ left
  pub written : Appends before after taken
