-- Words of memory at addresses that are one address and a number.
use Rattle.std.proofs.Common.{◌≡◌, ◌≢◌, ℕ, ◌+◌, ◌%◌, refl, arith}
use Rattle.std.specs.Prelude.{◌==◌}
use Rattle.std.proofs.lemmas.Bool.{eq-eqb, ne_eqb}
use Rattle.std.proofs.lemmas.Bool.Decides.{nat_tests}
use Rattle.implib_delay.specs.Processor.{with_value}

-- the same number added on both sides does not matter
pub shift_eq : (base a b : ℕ) → ((base + a) == (base + b)) ≡ (a == b)
shift_eq base a b = grind (arith, nat_tests)

-- at another number there is the old value
pub value_elsewhere : {X : Type 0} (f : ℕ → X) (key : ℕ) (value : X) (q : ℕ) → q ≢ key → with_value f key value q ≡ f q
value_elsewhere f key value q other = rw (ne_eqb q key other) refl

pub value_here : {X : Type 0} (f : ℕ → X) (key : ℕ) (value : X) → with_value f key value key ≡ value
value_here f key value = rw (eq-eqb key key refl) refl

-- what a multiple of 16 and a number leave
pub mod16_shift : (base : ℕ) → base % 16 ≡ 0 → (k : ℕ) → (base + k) % 16 ≡ k % 16
mod16_shift base whole k = omega arith

pub mod8_shift : (base : ℕ) → base % 16 ≡ 0 → (k : ℕ) → (base + k) % 8 ≡ k % 8
mod8_shift base whole k = omega arith
