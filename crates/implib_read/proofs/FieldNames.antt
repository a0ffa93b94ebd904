-- Name fields, and the numbers in fields.
use Rattle.std.proofs.Common.{◌≡◌, ℕ, ◌+◌, ◌-◌, ◌*◌, ◌^◌, ◌<◌, ◌≤◌, Bool, false, ◌&&◌, List, [], ◌∷◌, ◌++◌, get_or, length, nat_eq, take, if◌then◌else◌, length-append, refl, ap, arith}
use Rattle.std.proofs.Math.Nat.{pow-le-pow_right}
use Rattle.std.proofs.lemmas.Bool.{eqb-true, false_from_ne_true}
use Rattle.std.proofs.lemmas.List.{take_more}
use Rattle.implib_archive.specs.Reader.{trimmed}

trimmed-space : (xs : List ℕ) → trimmed (xs ++ 32 ∷ []) ≡ trimmed xs
unfolding trimmed
trimmed-space [] = refl
trimmed-space (c ∷ xs) = ap (λ t. if nat_eq c 32 && nat_eq (length t) 0 then [] else c ∷ t) (trimmed-space xs)

and_no : (b : Bool) → (b && false) ≡ false
and_no b = grind arith

trimmed-other : (xs : List ℕ) (c : ℕ) → nat_eq c 32 ≡ false → trimmed (xs ++ c ∷ []) ≡ xs ++ c ∷ []
unfolding trimmed
trimmed-other [] c other = ap (λ b. if b && nat_eq (length (trimmed [])) 0 then [] else c ∷ trimmed []) other
trimmed-other (d ∷ xs) c other = grind (arith, false_from_ne_true, eqb-true, length-append, and_no, trimmed-other xs c other)

split_last : (xs : List ℕ) (end : ℕ) → 0 < end → end ≤ length xs → take end xs ≡ take (end - 1) xs ++ get_or xs (end - 1) 0 ∷ []
split_last xs end some within = grind (arith, take_more)

pub trimmed-step : (xs : List ℕ) (end : ℕ) → 0 < end → end ≤ length xs → get_or xs (end - 1) 0 ≡ 32 → trimmed (take end xs) ≡ trimmed (take (end - 1) xs)
trimmed-step xs end some within space = grind (arith, split_last, trimmed-space)

pub trimmed-stop : (xs : List ℕ) (end : ℕ) → 0 < end → end ≤ length xs → nat_eq (get_or xs (end - 1) 0) 32 ≡ false → trimmed (take end xs) ≡ take end xs
trimmed-stop xs end some within other = grind (arith, split_last, trimmed-other)

pub trimmed-none : (xs : List ℕ) → trimmed (take 0 xs) ≡ take 0 xs
unfolding trimmed
trimmed-none xs = refl

pub small_power : (value i len : ℕ) → value + 23 ≤ 23 * 10 ^ i → i < len → len ≤ 15 → value ≤ 23 * 10 ^ 15
small_power value i len bound below short = grind (arith, pow-le-pow_right)
