-- Lemmas on lines of hexadecimal digits, made many at a time.
use Rattle.std.proofs.lemmas.Bool.{agree_below_at, eqb-true}
use Rattle.std.proofs.lemmas.List.FromFn.{fill_by_all}
use Rattle.std.proofs.Common.{eqb, true, ◌≡◌, ℕ, suc, ◌+◌, ◌*◌, ◌/◌, ◌%◌, ◌<◌, ◌≤◌, List, [], ◌∷◌, ◌++◌, length, map, get_or, refl, arith, cond, leb, w8, Fits}
use Rattle.std.specs.Simd.Lanes.{Each1}
use Rattle.std.proofs.lemmas.Simd.{swz_l}
use Rattle.std.proofs.lemmas.Bool.Decides.{nat_tests}
use Rattle.implib_tool_driver.specs.Listing.{bytes_listing, hex_digit}

-- the hexadecimal digits
abbrev pub hex_digits : List ℕ
hex_digits = 48 ∷ 49 ∷ 50 ∷ 51 ∷ 52 ∷ 53 ∷ 54 ∷ 55 ∷ 56 ∷ 57 ∷ 97 ∷ 98 ∷ 99 ∷ 100 ∷ 101 ∷ 102 ∷ []

-- the digit at a position
digit_at : (n : ℕ) → n < 16 → get_or hex_digits n 0 ≡ hex_digit n
digit_at n below = eqb-true _ _ (agree_below_at (λ k. eqb (get_or hex_digits k 0) (hex_digit k)) (λ k. true) 16 n refl below)

-- no lane is made 0
not_zeroed : (n a : ℕ) → n < 16 → cond (leb 128 n) 0 a ≡ a
not_zeroed n a below = grind (arith, nat_tests)

-- looking each up gives its digit
pub looked_up : (values : List ℕ) (i : ℕ) → i + length values ≤ 16 → Each1 (λ n. n < 16) values → swz_l w8 16 hex_digits i values ≡ map hex_digit values
looked_up [] i room below = refl
looked_up (n ∷ values) i room below = grind (arith, looked_up values (suc i) (omega (arith, room)) below.1, not_zeroed n (get_or hex_digits (16 * (i / 16) + n) 0) below.0, digit_at n below.0, swz_l w8 16 hex_digits (suc i) values)

-- the high half of a byte is below 16
pub highs_below : (values : List ℕ) → Each1 (Fits w8) values → Each1 (λ n. n < 16) (map (λ b. b / 16) values)
highs_below [] fits = tt
highs_below (n ∷ values) fits = (omega (arith, fits.0.fits), highs_below values fits.1)

-- a line of 16 bytes, by the higher digits and then the lower ones
abbrev pub line_of_digits : List ℕ → List ℕ
line_of_digits digits = get_or digits 0 0 ∷ get_or digits 16 0 ∷ 32 ∷ get_or digits 1 0 ∷ get_or digits 17 0 ∷ 32 ∷ get_or digits 2 0 ∷ get_or digits 18 0 ∷ 32 ∷ get_or digits 3 0 ∷ get_or digits 19 0 ∷ 32 ∷ get_or digits 4 0 ∷ get_or digits 20 0 ∷ 32 ∷ get_or digits 5 0 ∷ get_or digits 21 0 ∷ 32 ∷ get_or digits 6 0 ∷ get_or digits 22 0 ∷ 32 ∷ get_or digits 7 0 ∷ get_or digits 23 0 ∷ 32 ∷ get_or digits 8 0 ∷ get_or digits 24 0 ∷ 32 ∷ get_or digits 9 0 ∷ get_or digits 25 0 ∷ 32 ∷ get_or digits 10 0 ∷ get_or digits 26 0 ∷ 32 ∷ get_or digits 11 0 ∷ get_or digits 27 0 ∷ 32 ∷ get_or digits 12 0 ∷ get_or digits 28 0 ∷ 32 ∷ get_or digits 13 0 ∷ get_or digits 29 0 ∷ 32 ∷ get_or digits 14 0 ∷ get_or digits 30 0 ∷ 32 ∷ get_or digits 15 0 ∷ get_or digits 31 0 ∷ 10 ∷ []

-- it is the listing of these bytes
pub line_text : (bytes : List ℕ) → length bytes ≡ 16 → line_of_digits (map hex_digit (map (λ b. b / 16) bytes) ++ map hex_digit (map (λ b. b % 16) bytes)) ≡ bytes_listing bytes
line_text bytes size = rw (fill_by_all (λ k. get_or bytes k 0) bytes 16 0 size (λ k h. refl)) refl
