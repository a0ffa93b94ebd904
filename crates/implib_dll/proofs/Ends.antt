-- Loops that look for the entry which ends a table.
use Rattle.std.proofs.Common.{◌≡◌, ℕ, suc, ◌+◌, ◌-◌, ◌<◌, ◌≤◌, Bool, cond, true, false, Some, None, ap, arith}
use Rattle.implib_dll.specs.Imports.{first_end}

-- the first number is looked for
pub first_end-start : (ends : ℕ → Bool) (count : ℕ)
    → first_end ends 0 (count - 0) ≡ first_end ends 0 count
first_end-start ends count = grind arith

first_end-one : (ends : ℕ → Bool) (number left : ℕ) (b : Bool) → ends number ≡ b
    → first_end ends number (suc left)
    ≡ cond b (Some number) (first_end ends (number + 1) left)
unfolding first_end
first_end-one ends number left b is = ap (λ b. cond b (Some number) (first_end ends (number + 1) left)) is

-- the table ends at a number
pub first_end-here : (ends : ℕ → Bool) (number count : ℕ) → number < count → ends number ≡ true
    → first_end ends number (count - number) ≡ Some number
first_end-here ends number count within is = grind (arith, first_end-one ends number (count - (number + 1)) true is)

-- it does not
pub first_end-later : (ends : ℕ → Bool) (number count : ℕ) → number < count → ends number ≡ false
    → first_end ends number (count - number) ≡ first_end ends (number + 1) (count - (number + 1))
first_end-later ends number count within is = grind (arith, first_end-one ends number (count - (number + 1)) false is)

-- no number is left
pub first_end-none : (ends : ℕ → Bool) (number count : ℕ) → count ≤ number
    → first_end ends number (count - number) ≡ None
unfolding first_end
first_end-none ends number count past = grind arith
