-- The name that a short import asks for.
use Rattle.std.proofs.Common.{◌≡◌, ℕ, Bool, true, false, cond, List, length, take, Some, None, ap, nat_lt}
use Rattle.std.specs.List.{position, position_or_len, before_first}

take_chosen : (b : Bool) (m n : ℕ) (xs : List ℕ) → cond b (Some m) None ≡ Some n → take n xs ≡ take m xs
take_chosen true m n xs found = let same : n ≡ m = cc in ap (λ k. take k xs) same
take_chosen false m n xs found = cc

-- what is before the position that passes is what is before the first that passes
pub take_to_position : (p : ℕ → Bool) (xs : List ℕ) (n : ℕ) → position p xs ≡ Some n → take n xs ≡ before_first p xs
take_to_position p xs n found = take_chosen (nat_lt (position_or_len p xs) (length xs)) (position_or_len p xs) n xs found
