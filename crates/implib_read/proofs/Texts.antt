-- Texts up to a NUL, found by the place of the NUL.
use Rattle.std.proofs.Common.{◌≡◌, ℕ, zero, suc, ◌+◌, ◌-◌, ◌<◌, ◌≤◌, ◌==◌, Bool, false, cond, not, List, [], ◌∷◌, Option, Some, None, length, take, drop, refl, ap, ◌∙◌, arith, if◌then◌else◌}
use Rattle.std.specs.List.{position, position_or_len}
use Rattle.memchr.specs.Find.{IsFirstByte, is_byte}
use Rattle.std.proofs.lemmas.Bool.{eqb-true, false_from_ne_true, le-ltb, lt-ltb}
use Rattle.std.proofs.lemmas.List.Sums.{position_or_len_is}
use Rattle.std.proofs.lemmas.Grind.{common_steps}
use Rattle.implib.specs.Formats.Object.{before_nul, name_of, up_to_nul, u32_at}
use Rattle.implib_read.specs.Objects.{begins_with_zeros}
use Rattle.implib.specs.Formats.ShortImport.{text_in}

-- the place of the first NUL, or the length
abbrev pub nul_place : List ℕ → ℕ
nul_place bytes = position_or_len (λ byte. byte == 0) bytes

-- the first NUL, as a search of bytes finds it
pub first_nul : (bytes : List ℕ) (r : Option ℕ) → IsFirstByte (is_byte 0) bytes r → r ≡ position (λ byte. byte == 0) bytes
first_nul bytes None none =
    let all : nul_place bytes ≡ length bytes =
    position_or_len_is (λ byte. byte == 0) bytes (length bytes) 0 (omega arith) (λ k within. false_from_ne_true _ (none k (omega arith) within)) (λ within. absurd (omega (arith, within))) in
    grind (arith, le-ltb)
first_nul bytes (Some k) found = grind (arith, position_or_len_is, false_from_ne_true, lt-ltb)

pub suc_is_no_zero : (n : ℕ) → (suc n == 0) ≡ false
suc_is_no_zero n = false_from_ne_true (suc n == 0) (λ is. let same = eqb-true (suc n) 0 is in omega (arith, same))

nul_place-suc : (n : ℕ) (rest : List ℕ) → nul_place (suc n ∷ rest) ≡ suc (nul_place rest)
nul_place-suc n rest = ap (λ b. cond (not b) (1 + nul_place rest) 0) (suc_is_no_zero n) ∙ omega arith

pub nul_place-le : (bytes : List ℕ) → nul_place bytes ≤ length bytes
nul_place-le [] = omega arith
nul_place-le (zero ∷ rest) = omega arith
nul_place-le (suc n ∷ rest) = omega (arith, nul_place-suc n rest, nul_place-le rest)

pub before_nul-found : (bytes : List ℕ) → nul_place bytes < length bytes → before_nul bytes ≡ Some (take (nul_place bytes) bytes)
unfolding before_nul
before_nul-found [] within = absurd (omega (arith, within))
before_nul-found (zero ∷ rest) within = refl
before_nul-found (suc n ∷ rest) within = simp (before_nul-found rest (omega (arith, within, (nul_place-suc n rest))), nul_place-suc n rest)

pub before_nul-none : (bytes : List ℕ) → length bytes ≤ nul_place bytes → before_nul bytes ≡ None
unfolding before_nul
before_nul-none [] within = refl
before_nul-none (zero ∷ rest) within = absurd (omega (arith, within))
before_nul-none (suc n ∷ rest) within = cc (before_nul-none rest (omega (arith, within, nul_place-suc n rest)))

pub up_to_nul-at : (bytes : List ℕ) → take (nul_place bytes) bytes ≡ up_to_nul bytes
unfolding up_to_nul
up_to_nul-at [] = refl
up_to_nul-at (zero ∷ rest) = refl
up_to_nul-at (suc n ∷ rest) = ap (λ k. take k (suc n ∷ rest)) (nul_place-suc n rest) ∙ ap (λ text. suc n ∷ text) (up_to_nul-at rest)

-- the text before a place, and what is after it
abbrev split_at : List ℕ → ℕ → List ℕ × List ℕ
split_at bytes k = (take k bytes, drop (suc k) bytes)

text_in-place : (bytes : List ℕ) → nul_place bytes < length bytes → text_in bytes ≡ Some (split_at bytes (nul_place bytes))
text_in-place [] within = absurd (omega (arith, within))
text_in-place (zero ∷ rest) within = refl
text_in-place (suc n ∷ rest) within = grind (arith, nul_place-suc, suc_is_no_zero, text_in-place rest (omega (arith, within, (nul_place-suc n rest))))

pub text_in-found : (bytes : List ℕ) (k : ℕ) → k ≡ nul_place bytes → k < length bytes
    → Some (take k bytes, take (length bytes - (k + 1)) (drop (k + 1) bytes)) ≡ text_in bytes
text_in-found bytes k is within = grind (arith, common_steps, text_in-place bytes (omega (arith, is, within)))

pub text_in-none : (bytes : List ℕ) → length bytes ≤ nul_place bytes → text_in bytes ≡ None
text_in-none [] within = refl
text_in-none (zero ∷ rest) within = absurd (omega (arith, within))
text_in-none (suc n ∷ rest) within = cc (suc_is_no_zero n, text_in-none rest (omega (arith, within, nul_place-suc n rest)))

-- the name of a field, by its first four bytes
name_with : List ℕ → List ℕ → Bool → Option (List ℕ)
name_with strings field table = if table then before_nul (drop (u32_at field 4) strings) else Some (up_to_nul field)

pub name_found : (strings field : List ℕ) → length field ≡ 8
    → name_of strings field ≡ (if begins_with_zeros field then before_nul (drop (u32_at field 4) strings) else Some (up_to_nul field))
unfolding name_of name_with u32_at
name_found strings field eight = grind (arith, suc_is_no_zero)

pub ruleset texts = (nul_place-le, before_nul-found, before_nul-none, up_to_nul-at, text_in-found, text_in-none)
