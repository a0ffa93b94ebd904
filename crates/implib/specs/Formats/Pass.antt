-- A writer of bytes, front to back, into room that was reserved.
use Rattle.std.specs.Prelude.{◌≡◌, ℕ, ◌+◌, List, ◌++◌, length}

-- what was put into a pass, and the number of bytes that still fit
pub record Written : Type 0 where
  pub put : List ℕ
  pub left : ℕ

-- The bytes were put after what was there, into room that was left. For example, 2 bytes put into
-- room for 4 leave room for 2.
pub record Puts (old new : Written) (bytes : List ℕ) : Type 0 where
  pub put : new.put ≡ old.put ++ bytes
  pub left : new.left + length bytes ≡ old.left
