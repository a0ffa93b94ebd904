-- What the readers say of a word is what the grammar says of it.
use Rattle.std.proofs.Common.{◌≡◌, ℕ, ◌<◌, ◌≤◌, ◌⊎◌, inl, inr, Bool, true, false, cond, ◌&&◌, eqb, ltb, leb, List, [], ◌∷◌, ◌++◌, length, drop, Option, Some, None, refl, sym, ap, subst, ◌∙◌, arith, eqb-true, ltb-true, leb-true, lt-ltb, le-leb}
use Rattle.std.specs.Prelude.{slice_index}
use Rattle.std.specs.Str.{all_ascii_digits}
use Rattle.std.specs.Str.Parse.{digits_value, without_leading_plus}
use Rattle.std.proofs.lemmas.Bool.{and_parts, eqb-false, ne_eqb}
use Rattle.std.proofs.lemmas.Str.Parse.{IsNumeralModel, numerals_by_value, tells_all_ascii_digits, not_in_digits, without_leading_plus_none}
use Rattle.implib.specs.Text.Grammar.{at_sign, full_stop, IsLoneAt, IsAtNumber, IsVersion}
use Rattle.implib.specs.Text.Number.{IsNumber, plus_sign, u16_limit, u32_limit}
use Rattle.implib.specs.Views.TokenReader.{number_by, number_of, cons_first, at_stop, both, version_by, version_of, AtWord, Lone, WithOrdinal, Plain, at_number, after_at, at_word}

-- the texts of digits and their value, in the library's words
abbrev own : IsNumeralModel (λ ds. all_ascii_digits ds ≡ true) (digits_value 10)
own = numerals_by_value (λ ds. all_ascii_digits ds ≡ true) tells_all_ascii_digits

-- a text is what is after its `+`, or that with the `+` in front
text_by_rest : (value : List ℕ) (starts : Bool) → eqb (slice_index value 0) plus_sign ≡ starts → (value ≡ drop (cond starts 1 0) value) ⊎ (value ≡ plus_sign ∷ drop (cond starts 1 0) value)
text_by_rest value false e = inl refl
text_by_rest [] true e = inl refl
text_by_rest (c ∷ cs) true e = inr (ap (λ (d : ℕ). d ∷ cs) (eqb-true _ _ e))

-- the digits of a number are what is after its `+`
rest_of_text : (value digits : List ℕ) → all_ascii_digits digits ≡ true → 0 < length digits → (value ≡ digits) ⊎ (value ≡ plus_sign ∷ digits) → without_leading_plus value ≡ digits
rest_of_text value digits all some (inl e) = grind (arith, digits, not_in_digits, without_leading_plus_none)
rest_of_text value digits all some (inr e) = ap without_leading_plus e

number_by-passed : (digits : List ℕ) (limit : ℕ) → all_ascii_digits digits ≡ true → 0 < length digits → digits_value 10 digits ≤ limit → number_by digits limit ≡ Some (digits_value 10 digits)
number_by-passed digits limit all some within = grind (arith, lt-ltb, digits, le-leb)

pub number_of-is : (value : List ℕ) (limit n : ℕ) → IsNumber value limit n → number_of value limit ≡ Some n
unfolding number_of
number_of-is value limit n is = grind (arith, rest_of_text, number_by-passed)

-- what a computed number has passed
passed : (digits : List ℕ) (limit n : ℕ) (test : Bool) → (all_ascii_digits digits && (ltb 0 (length digits) && leb (digits_value 10 digits) limit)) ≡ test
    → cond test (Some (digits_value 10 digits)) None ≡ Some n
    → (all_ascii_digits digits ≡ true) × (0 < length digits) × (digits_value 10 digits ≤ limit) × (n ≡ digits_value 10 digits)
passed digits limit n true e h = grind (arith, and_parts, digits, ltb-true, leb-true)
passed digits limit n false e h = absurd cc

pub number_of-gives : (value : List ℕ) (limit n : ℕ) → number_of value limit ≡ Some n → IsNumber value limit n
unfolding number_of
number_of-gives value limit n h = grind (arith, passed, text_by_rest)

pub number_of-lacks : (value : List ℕ) (limit : ℕ) → number_of value limit ≡ None → (n : ℕ) → ¬ (IsNumber value limit n)
number_of-lacks value limit h n is = let e = number_of-is value limit n is in absurd cc

by_none : (value : List ℕ) (limit : ℕ) (o : Option ℕ) → number_of value limit ≡ o → ((n : ℕ) → ¬ (IsNumber value limit n)) → number_of value limit ≡ None
by_none value limit None e h = e
by_none value limit (Some n) e h = absurd (h n (number_of-gives value limit n e))

pub number_of-none : (value : List ℕ) (limit : ℕ) → ((n : ℕ) → ¬ (IsNumber value limit n)) → number_of value limit ≡ None
number_of-none value limit h = by_none value limit (number_of value limit) refl h

-- ---- words that begin with `@`

-- what a word is among attributes, in the grammar's words
abbrev pub IsAtWord : AtWord → List ℕ → Type 0
IsAtWord Lone value = IsLoneAt value
IsAtWord (WithOrdinal n) value = IsAtNumber value n
IsAtWord Plain value = (¬ (IsLoneAt value)) × ((n : ℕ) → ¬ (IsAtNumber value n))

after_at_number : (byte c : ℕ) (cs : List ℕ) (o : Option ℕ) → byte ≡ at_sign → number_of (c ∷ cs) u16_limit ≡ o → IsAtWord (at_number o) (byte ∷ c ∷ cs)
after_at_number byte c cs (Some n) b e = grind (arith, number_of-gives)
after_at_number byte c cs None b e =
    ((λ h. absurd cc), λ n is. number_of-lacks (c ∷ cs) u16_limit e n (subst (λ (v : List ℕ). IsNumber v u16_limit n) (tails is.number is.text_is) is.is_number))
  where
    tails : (number : List ℕ) → byte ∷ c ∷ cs ≡ at_sign ∷ number → number ≡ c ∷ cs
    tails number h = cc

after_at_gives : (byte : ℕ) (rest : List ℕ) → byte ≡ at_sign → IsAtWord (after_at rest) (byte ∷ rest)
after_at_gives byte [] b = ap (λ (x : ℕ). x ∷ []) b
after_at_gives byte (c ∷ cs) b = after_at_number byte c cs (number_of (c ∷ cs) u16_limit) b refl

first_gives : (byte : ℕ) (rest : List ℕ) (test : Bool) → eqb byte at_sign ≡ test → IsAtWord (cond test (after_at rest) Plain) (byte ∷ rest)
first_gives byte rest true e = after_at_gives byte rest (eqb-true byte at_sign e)
first_gives byte rest false e = grind (arith, eqb-false)

pub at_word-gives : (value : List ℕ) → IsAtWord (at_word value) value
unfolding at_word
at_word-gives [] = grind arith
at_word-gives (byte ∷ rest) = first_gives byte rest (eqb byte at_sign) refl

-- the same, where the word is known
pub at_word-at : (value : List ℕ) (word : AtWord) → at_word value ≡ word → IsAtWord word value
at_word-at value word e = subst (λ (w : AtWord). IsAtWord w value) e (at_word-gives value)

lone_is : at_word (at_sign ∷ []) ≡ Lone
unfolding at_word
lone_is = refl

no_digits : (limit n : ℕ) → ¬ (IsNumber [] limit n)
no_digits limit n is = grind arith

with_ordinal_is : (number : List ℕ) (n : ℕ) → IsNumber number u16_limit n → at_word (at_sign ∷ number) ≡ WithOrdinal n
unfolding at_word
with_ordinal_is [] n is = absurd (no_digits u16_limit n is)
with_ordinal_is (c ∷ cs) n is = ap at_number (number_of-is (c ∷ cs) u16_limit n is)

plain_is : (value : List ℕ) (word : AtWord) → IsAtWord word value → IsAtWord Plain value → word ≡ Plain
plain_is value Lone h p = absurd (p.0 h)
plain_is value (WithOrdinal n) h p = absurd (p.1 n h)
plain_is value Plain h p = refl

pub at_word-is : (value : List ℕ) (word : AtWord) → IsAtWord word value → at_word value ≡ word
at_word-is value Lone h = ap at_word h ∙ lone_is
at_word-is value (WithOrdinal n) h = ap at_word h.text_is ∙ with_ordinal_is h.number n h.is_number
at_word-is value Plain h = plain_is value (at_word value) (at_word-gives value) h

-- ---- versions

-- the text holds no `.`
abbrev NoStop : List ℕ → Type 0
NoStop [] = Unit {0}
NoStop (c ∷ cs) = (eqb c full_stop ≡ false) × NoStop cs

NoStop-digits : (ds : List ℕ) → all_ascii_digits ds ≡ true → NoStop ds
NoStop-digits [] h = tt
NoStop-digits (c ∷ cs) h = grind (arith, NoStop-digits cs (tells_all_ascii_digits.parts c cs h).1, ne_eqb)

NoStop-number : (value : List ℕ) (limit n : ℕ) → IsNumber value limit n → NoStop value
NoStop-number value limit n is = by_text is.text_is
  where
    digits : NoStop is.digits
    digits = NoStop-digits is.digits is.all_digits

    by_text : (value ≡ is.digits) ⊎ (value ≡ plus_sign ∷ is.digits) → NoStop value
    by_text (inl e) = rw e digits
    by_text (inr e) = rw e (refl, digits)

at_stop-none : (value : List ℕ) → NoStop value → at_stop value ≡ None
at_stop-none [] h = refl
at_stop-none (c ∷ cs) h = rw (h.0, at_stop-none cs h.1) refl

at_stop-first : (front back : List ℕ) → NoStop front → at_stop (front ++ full_stop ∷ back) ≡ Some (front, back)
at_stop-first [] back h = refl
at_stop-first (c ∷ cs) back h = rw (h.0, at_stop-first cs back h.1) refl

-- what is found at the first `.` puts the text together
abbrev IsCutSo : List ℕ → Option (List ℕ × List ℕ) → Type 0
IsCutSo value None = Unit {0}
IsCutSo value (Some parts) = value ≡ parts.0 ++ full_stop ∷ parts.1

cons_cut : (c : ℕ) (cs : List ℕ) (o : Option (List ℕ × List ℕ)) → IsCutSo cs o → IsCutSo (c ∷ cs) (cons_first c o)
cons_cut c cs None h = tt
cons_cut c cs (Some parts) h = ap (λ (v : List ℕ). c ∷ v) h

cut_by : (c : ℕ) (cs : List ℕ) (test : Bool) → eqb c full_stop ≡ test → IsCutSo cs (at_stop cs) → IsCutSo (c ∷ cs) (cond test (Some ([], cs)) (cons_first c (at_stop cs)))
cut_by c cs true e h = ap (λ (x : ℕ). x ∷ cs) (eqb-true c full_stop e)
cut_by c cs false e h = cons_cut c cs (at_stop cs) h

at_stop-parts : (value : List ℕ) → IsCutSo value (at_stop value)
at_stop-parts [] = tt
at_stop-parts (c ∷ cs) = cut_by c cs (eqb c full_stop) refl (at_stop-parts cs)

both_parts : (first second : Option ℕ) (major minor : ℕ) → both first second ≡ Some (major, minor) → (first ≡ Some major) × (second ≡ Some minor)
both_parts (Some a) (Some b) major minor h = grind arith
both_parts None second major minor h = absurd cc
both_parts (Some a) None major minor h = absurd cc

version_by_gives : (value : List ℕ) (o : Option (List ℕ × List ℕ)) (major minor : ℕ) → IsCutSo value o → version_by value o ≡ Some (major, minor) → IsVersion value major minor
version_by_gives value None major minor cut h = grind (arith, both_parts, number_of-gives)
version_by_gives value (Some parts) major minor cut h = grind (arith, both_parts, number_of-gives)

pub version_of-gives : (value : List ℕ) (major minor : ℕ) → version_of value ≡ Some (major, minor) → IsVersion value major minor
unfolding version_of
version_of-gives value major minor h = version_by_gives value (at_stop value) major minor (at_stop-parts value) h

version_of_alone : (value : List ℕ) (major : ℕ) → IsNumber value u32_limit major → version_of value ≡ Some (major, 0)
unfolding version_of
version_of_alone value major is =
    rw (at_stop-none value (NoStop-number value u32_limit major is), number_of-is value u32_limit major is) refl

version_of_both : (front back : List ℕ) (major minor : ℕ) → IsNumber front u32_limit major → IsNumber back u32_limit minor → version_of (front ++ full_stop ∷ back) ≡ Some (major, minor)
unfolding version_of
version_of_both front back major minor first second =
    rw (at_stop-first front back (NoStop-number front u32_limit major first), number_of-is front u32_limit major first, number_of-is back u32_limit minor second) refl

pub version_of-is : (value : List ℕ) (major minor : ℕ) → IsVersion value major minor → version_of value ≡ Some (major, minor)
version_of-is value major minor (inl is) =
    version_of_alone value major is.is_number ∙ ap (λ (m : ℕ). Some (major, m)) (sym is.minor_is)
version_of-is value major minor (inr is) =
    ap version_of is.text_is ∙ version_of_both is.front is.back major minor is.front_number is.back_number

pub version_of-lacks : (value : List ℕ) → version_of value ≡ None → (major minor : ℕ) → ¬ (IsVersion value major minor)
version_of-lacks value h major minor is = let e = version_of-is value major minor is in absurd cc

no_version : (value : List ℕ) (o : Option (ℕ × ℕ)) → version_of value ≡ o → ((major minor : ℕ) → ¬ (IsVersion value major minor)) → version_of value ≡ None
no_version value None e h = e
no_version value (Some (major, minor)) e h = absurd (h major minor (version_of-gives value major minor e))

pub version_of-none : (value : List ℕ) → ((major minor : ℕ) → ¬ (IsVersion value major minor)) → version_of value ≡ None
version_of-none value h = no_version value (version_of value) refl h
