-- View: what the code that fills a buffer has done.
use Rattle.std.specs.Prelude.{◌≡◌, ℕ, ◌+◌, List, ◌++◌, length, take, drop}

-- The bytes are in the buffer from one offset up to the other, and the rest is as it was. For
-- example, two bytes are there from offset 1 up to offset 3.
pub record Fills (old new : List ℕ) (start end : ℕ) (bytes : List ℕ) : Type 0 where
  pub end_is : end ≡ start + length bytes
  pub new_is : new ≡ take start old ++ (bytes ++ drop end old)
