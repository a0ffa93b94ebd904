-- A name as text: the steps of the loop that reads it.
use Rattle.std.proofs.Common.{◌≡◌, ◌<◌, ◌≤◌, ◌==◌, ◌⊎◌, ◌∙◌, ℕ, List, true, false, ◌+◌, ◌-◌, ◌++◌, ap, inl, inr, length, take, drop, suc, arith}
use Rattle.std.proofs.lemmas.Bool.Decides.{nat_tests}
use Rattle.std.proofs.lemmas.List.{append-nil, append_assoc, length-take-le, take_all, take_rest}
use Rattle.std.proofs.lemmas.Str.{utf8_valid_len-IsUtf8, utf8_valid_len_le}
use Rattle.std.specs.Str.{IsUtf8}
use Rattle.std.specs.Str.Lossy.{replacement_bytes, utf8_valid_len}
use Rattle.implib_check_driver.specs.Json.{text_within}

-- where all is UTF-8, all is the text
pub text_whole : (n i : ℕ) (name : List ℕ) → i < n → length name < utf8_valid_len name + 1 → text_within (n - i) name ≡ take (utf8_valid_len name) name
text_whole n i name below whole =
    let step : n - i ≡ suc (n - (i + 1)) = omega arith in
    let all : (utf8_valid_len name == length name) ≡ true = grind (arith, nat_tests, utf8_valid_len_le name) in
    rw (step, all, append-nil)

-- else a byte behind the text is replaced
pub text_more : (n i : ℕ) (name : List ℕ) → i < n → utf8_valid_len name + 1 ≤ length name
    → text_within (n - i) name ≡ take (utf8_valid_len name) name ++ (replacement_bytes ++ text_within (n - (i + 1)) (drop (utf8_valid_len name + 1) name))
text_more n i name below more =
    let step : n - i ≡ suc (n - (i + 1)) = omega arith in
    let part : (utf8_valid_len name == length name) ≡ false = grind (arith, nat_tests) in
    rw (step, part)

-- the text in front of a name that is UTF-8
pub front_of_text : (name : List ℕ) → IsUtf8 name → take (utf8_valid_len name) name ≡ name
front_of_text name text = take_all _ name (omega (arith, utf8_valid_len-IsUtf8 name text))

-- the text in front has the length that it is said to have
length_of_front : (front rest : List ℕ) → front ≡ take (utf8_valid_len rest) rest → length front ≡ utf8_valid_len rest
length_of_front front rest cut = ap length cut ∙ length-take-le (utf8_valid_len rest) rest (utf8_valid_len_le rest)

-- a number that is below another, or below itself, is below the other
below_other : (a b : ℕ) → (a < b) ⊎ (a < a) → a < b
below_other a b (inl below) = below
below_other a b (inr itself) = absurd (omega arith)

-- where no byte is behind the text in front, all is made
pub at_end : (n i : ℕ) (made front rest all : List ℕ) → i < n → front ≡ take (utf8_valid_len rest) rest
    → (length rest < length front + 1) ⊎ (length rest < length rest) → made ++ text_within (n - i) rest ≡ all → made ++ front ≡ all
at_end n i made front rest all below cut none so_far =
    let behind : length rest < length front + 1 = below_other _ _ none in
    let length_of : length front ≡ utf8_valid_len rest = length_of_front front rest cut in
    let whole : length rest < utf8_valid_len rest + 1 = omega arith in
    rw cut (rw (text_whole n i rest below whole) at so_far)

-- else that byte is replaced, and the rest is left
pub past_byte : (n i : ℕ) (made front rest more all : List ℕ) → i < n → front ≡ take (utf8_valid_len rest) rest → length front + 1 ≤ length rest
    → more ≡ take (length rest - (length front + 1)) (drop (length front + 1) rest) → made ++ text_within (n - i) rest ≡ all
    → ((made ++ front) ++ replacement_bytes) ++ text_within (n - (i + 1)) more ≡ all
past_byte n i made front rest more all below cut some left so_far =
    let length_of : length front ≡ utf8_valid_len rest = length_of_front front rest cut in
    let behind : utf8_valid_len rest + 1 ≤ length rest = omega arith in
    let whole : more ≡ drop (utf8_valid_len rest + 1) rest = left ∙ (take_rest rest (length front + 1) ∙ ap (λ (k : ℕ). drop (k + 1) rest) length_of) in
    rw (whole, cut) (simp append_assoc (rw (text_more n i rest below behind) at so_far))
