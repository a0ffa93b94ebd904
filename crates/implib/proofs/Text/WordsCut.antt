-- Where `split_once` and `strip_prefix` cut a word.
use Rattle.std.proofs.Common.{◌≡◌, ℕ, suc, ◌+◌, ◌<◌, true, false, eqb, List, [], ◌∷◌, ◌++◌, length, get_or, drop, Some, None, Bor, refl, ap, ◌∙◌, arith}
use Rattle.std.specs.Prelude.{◌≢◌}
use Rattle.std.specs.Str.Pattern.{FindsChar, FindsCharPrefix}
use Rattle.std.proofs.lemmas.Bool.{eqb-true, ne_eqb}
use Rattle.std.proofs.lemmas.Str.Pattern.{IsSplitOnceResult, split_parts, strip_prefix_char}
use Rattle.implib.specs.Text.Grammar.{at_sign, full_stop}
use Rattle.implib.specs.Text.Number.{u16_limit, u32_limit}
use Rattle.implib.specs.Views.TokenReader.{Lone, Plain, after_at, at_number, at_stop, at_word, both, number_of, version_by, version_of}

-- a word without a `.` is not cut
at_stop-none : (value : List ℕ) → ((i : ℕ) → i < length value → get_or value i 0 ≢ full_stop) → at_stop value ≡ None
at_stop-none [] never = refl
at_stop-none (byte ∷ rest) never =
    rw (ne_eqb byte full_stop (never 0 (omega arith)), at_stop-none rest (λ i lt. never (suc i) (omega arith))) refl

-- the first `.` is where the front has none
at_stop-append : (front back : List ℕ) → ((i : ℕ) → i < length front → get_or front i 0 ≢ full_stop) → at_stop (front ++ full_stop ∷ back) ≡ Some (front, back)
at_stop-append [] back never = refl
at_stop-append (byte ∷ front) back never =
    rw (ne_eqb byte full_stop (never 0 (omega arith)), at_stop-append front back (λ i lt. never (suc i) (omega arith))) refl

-- a version without a `.` is one number
pub version_uncut : (value : List ℕ) → FindsChar full_stop value None → version_of value ≡ both (number_of value u32_limit) (Some 0)
unfolding version_of
version_uncut value h = ap (version_by value) (at_stop-none value (split_parts full_stop value None h (omega arith)))

-- and one with a `.` is the two that `split_once` gives
pub version_cut : (value : List ℕ) (x : Bor (List ℕ) × Bor (List ℕ)) → IsSplitOnceResult full_stop value (Some x) → version_of value ≡ both (number_of (x.0).now u32_limit) (number_of (x.1).now u32_limit)
unfolding version_of
version_cut value x h =
    let parts = split_parts full_stop value (Some x) h (omega arith) in
    ap (version_by value) (ap at_stop parts.0 ∙ at_stop-append (x.0).now (x.1).now parts.1)

-- a word without `@` in front is plain
pub plain_unstripped : (word : List ℕ) → FindsCharPrefix at_sign word None → at_word word ≡ Plain
unfolding at_word
plain_unstripped [] h = refl
plain_unstripped (byte ∷ rest) h =
    let never = strip_prefix_char at_sign (byte ∷ rest) None h (omega arith) in
    rw (ne_eqb byte at_sign (λ e. never rest (ap (λ (b : ℕ). b ∷ rest) e))) refl

-- what `strip_prefix` gives at `@`
abbrev pub IsStripped : List ℕ → Bor (List ℕ) → Type 0
IsStripped word x = (n : ℕ) × FindsCharPrefix at_sign word (Some n) × (x.now ≡ drop n word) × (length x.now + n ≡ length word)

after_stripped : (word : List ℕ) (x : Bor (List ℕ)) → IsStripped word x → at_word word ≡ after_at x.now
unfolding at_word
after_stripped word x h = ap at_word (strip_prefix_char at_sign word (Some x) h (omega arith))

after_at-nil : (digits : List ℕ) → eqb (length digits) 0 ≡ true → after_at digits ≡ Lone
after_at-nil [] e = refl
after_at-nil (byte ∷ rest) e = absurd (omega (arith, eqb-true _ _ e))

after_at-cons : (digits : List ℕ) → eqb (length digits) 0 ≡ false → after_at digits ≡ at_number (number_of digits u16_limit)
after_at-cons [] e = absurd cc
after_at-cons (byte ∷ rest) e = refl

-- `@` alone
pub lone_stripped : (word : List ℕ) (x : Bor (List ℕ)) → IsStripped word x → eqb (length x.now) 0 ≡ true → at_word word ≡ Lone
lone_stripped word x h e = after_stripped word x h ∙ after_at-nil x.now e

-- `@` and more
pub more_stripped : (word : List ℕ) (x : Bor (List ℕ)) → IsStripped word x → eqb (length x.now) 0 ≡ false → at_word word ≡ at_number (number_of x.now u16_limit)
more_stripped word x h e = after_stripped word x h ∙ after_at-cons x.now e
