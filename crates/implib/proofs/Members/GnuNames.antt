-- The names of members for GNU's linker.
use Rattle.std.proofs.Common.{◌≡◌, ℕ, suc, ◌+◌, ◌-◌, ◌<◌, ◌≤◌, Bool, true, false, cond, if◌then◌else◌, List, [], ◌∷◌, ◌++◌, length, take, drop, get_or, Some, None, refl, ap, sym, ◌∙◌, arith, append_assoc, add-one, one-add}
use Rattle.std.specs.Prelude.{◌==◌, not, slice_range}
use Rattle.std.specs.Fmt.{char_count, format_spec, padded_integral, styled_decimal}
use Rattle.std.specs.List.{position, position_or_len}
use Rattle.std.proofs.lemmas.Bool.{eqb-true, ltb-false}
use Rattle.std.proofs.lemmas.List.{append-nil}
use Rattle.std.proofs.lemmas.List.Quantifiers.{position-Some}
use Rattle.implib.specs.Ascii.{underscore}
use Rattle.implib.specs.Members.Gnu.{five_digits, full_stop, mangled_name}

abbrev pub stops : ℕ → Bool
stops byte = byte == full_stop

first_step : (t : Bool) (b : ℕ) (text : List ℕ) (m : ℕ) →
    (m < length text → mangled_name text ≡ take m text ++ underscore ∷ mangled_name (drop (suc m) text)) → cond (not t) (1 + m) 0 < suc (length text) →
    (if t then underscore else b) ∷ mangled_name text ≡ take (cond (not t) (1 + m) 0) (b ∷ text) ++ underscore ∷ mangled_name (drop (suc (cond (not t) (1 + m) 0)) (b ∷ text))
first_step true b text m rest within = refl
first_step false b text m rest within = rw (one-add m) (ap (λ x. b ∷ x) (rest (omega arith)))

mangled_name_to : (text : List ℕ) → position_or_len stops text < length text →
    mangled_name text ≡ take (position_or_len stops text) text ++ underscore ∷ mangled_name (drop (suc (position_or_len stops text)) text)
unfolding mangled_name
mangled_name_to [] within = absurd (omega (arith, within))
mangled_name_to (b ∷ text) within = first_step (stops b) b text (position_or_len stops text) (mangled_name_to text) within

none_step : (t : Bool) (b : ℕ) (text : List ℕ) (m : ℕ) →
    (length text ≤ m → mangled_name text ≡ text) → suc (length text) ≤ cond (not t) (1 + m) 0 → (if t then underscore else b) ∷ mangled_name text ≡ b ∷ text
none_step true b text m rest past = absurd (omega (arith, past))
none_step false b text m rest past = ap (λ x. b ∷ x) (rest (omega arith))

mangled_name_past : (text : List ℕ) → length text ≤ position_or_len stops text → mangled_name text ≡ text
unfolding mangled_name
mangled_name_past [] past = refl
mangled_name_past (b ∷ text) past = none_step (stops b) b text (position_or_len stops text) (mangled_name_past text) past

chosen : (t : Bool) (m n : ℕ) → cond t (Some m) None ≡ Some n → m ≡ n
chosen true m n found = cc
chosen false m n found = cc

-- up to its first full stop a name is its mangled name, and there the mangled name has an underscore
pub mangled_name_first : (text : List ℕ) (n : ℕ) → position stops text ≡ Some n → mangled_name text ≡ take n text ++ underscore ∷ mangled_name (drop (n + 1) text)
mangled_name_first text n found = grind (arith, chosen, position-Some, add-one, mangled_name_to)

-- where the first full stop is found, there is one
pub stop_located : (text : List ℕ) (n : ℕ) → position stops text ≡ Some n → (n < length text) × (get_or text n 0 < 128)
stop_located text n found = grind (arith, position-Some, eqb-true)

-- what is before it, an underscore and the mangled name of what is after are the mangled name
pub mangled_name_step : (out text : List ℕ) (n : ℕ) → position stops text ≡ Some n → ((out ++ slice_range text 0 n) ++ underscore ∷ []) ++ mangled_name (drop (n + 1) text) ≡ out ++ mangled_name text
mangled_name_step out text n found =
    let whole : n - 0 ≡ n = omega arith in
    ap (λ k. ((out ++ take k text) ++ underscore ∷ []) ++ mangled_name (drop (n + 1) text)) whole
    ∙ append_assoc (out ++ take n text) (underscore ∷ []) (mangled_name (drop (n + 1) text))
    ∙ (append_assoc out (take n text) (underscore ∷ mangled_name (drop (n + 1) text)) ∙ ap (λ x. out ++ x) (sym (mangled_name_first text n found)))

not_chosen : (t : Bool) (m : ℕ) → cond t (Some m) None ≡ None → t ≡ false
not_chosen true m none = cc
not_chosen false m none = refl

-- a name without a full stop is its mangled name
pub mangled_name_none : (text : List ℕ) → position stops text ≡ None → mangled_name text ≡ text
mangled_name_none text none = grind (arith, mangled_name_past, ltb-false, not_chosen)

-- a number that is printed with five digits
pub five_digits_printed : (n : ℕ) → styled_decimal (format_spec 32 0 4 5 18446744073709551615) n ≡ five_digits n
unfolding five_digits padded_integral char_count
five_digits_printed n = grind (arith, append-nil)
