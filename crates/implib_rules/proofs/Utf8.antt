-- A text that is not UTF-8 is so at one position.
use Rattle.std.proofs.Common.{rules, ◌≡◌, ◌∙◌, ℕ, zero, suc, ◌<◌, ◌≤◌, Bool, true, false, List, ap, arith, if◌then◌else◌, length, refl, sym, take}
use Rattle.std.specs.Str.{IsUtf8, IsValidUpTo, is_utf8}
use Rattle.std.specs.Str.Lossy.{utf8_valid_len, valid_len_up_to}
use Rattle.std.proofs.Math.Nat.{eq-or-lt_of_le}
use Rattle.std.proofs.lemmas.Bool.{cases_order, true≢false}
use Rattle.std.proofs.lemmas.List.{take_all}
use Rattle.std.proofs.lemmas.Str.{IsUtf8-from_is_utf8, IsUtf8-nil, is_utf8-from_IsUtf8, utf8_valid_len-IsValidUpTo, utf8_valid_len_le}
use Rattle.implib.specs.declared.def.position.Position.{Position}
use Rattle.implib.specs.Text.Position.{position_at}
use Rattle.implib_rules.specs.Utf8.{IsNotUtf8At, IsNotUtf8Once, utf8_end}

-- what is tested and is not so is not UTF-8
not_utf8 : (text : List ℕ) → is_utf8 text ≡ false → ¬ (IsUtf8 text)
not_utf8 text refused is = absurd (true≢false (sym (is_utf8-from_IsUtf8 text is) ∙ refused))

found_front : (text : List ℕ) (n : ℕ) (is : Bool) → is_utf8 (take (suc n) text) ≡ is → IsUtf8 (take (valid_len_up_to text n) text)
    → IsUtf8 (take (if is then suc n else valid_len_up_to text n) text)
found_front text n true is before = IsUtf8-from_is_utf8 (take (suc n) text) is
found_front text n false is before = before

-- the beginning that is found is UTF-8
front : (text : List ℕ) (n : ℕ) → IsUtf8 (take (valid_len_up_to text n) text)
front text zero = IsUtf8-nil
front text (suc n) = found_front text n (is_utf8 (take (suc n) text)) refl (front text n)

found_longest : (text : List ℕ) (n m : ℕ) (is : Bool) → is_utf8 (take (suc n) text) ≡ is → (valid_len_up_to text n < m → m ≤ n → ¬ (IsUtf8 (take m text)))
    → (if is then suc n else valid_len_up_to text n) < m → m ≤ suc n → ¬ (IsUtf8 (take m text))
found_longest text n m true is before above within = absurd (omega (arith, above, within))
found_longest text n m false is before above within = grind (arith, cases_order m (suc n), not_utf8 (take (suc n) text) is)

-- and no longer one is
longest : (text : List ℕ) (n m : ℕ) → valid_len_up_to text n < m → m ≤ n → ¬ (IsUtf8 (take m text))
longest text zero m above within = absurd (omega (arith, above, within))
longest text (suc n) m above within = found_longest text n m (is_utf8 (take (suc n) text)) refl (longest text n m) above within

longer : (text : List ℕ) (m : ℕ) → ¬ (IsUtf8 text) → utf8_valid_len text < m → ¬ (IsUtf8 (take m text))
unfolding utf8_valid_len
longer text m refused above = grind (arith, longest text (length text) m above, take_all m text)

shorter : (text : List ℕ) → ¬ (IsUtf8 text) → utf8_valid_len text < length text
unfolding utf8_valid_len
shorter text refused = grind (arith, eq-or-lt_of_le (utf8_valid_len_le text), take_all (utf8_valid_len text) text, front text (length text))

valid_up_to : (text : List ℕ) → ¬ (IsUtf8 text) → IsValidUpTo text (utf8_valid_len text)
unfolding utf8_valid_len
valid_up_to text refused = search (rules, shorter, front, longest, longer)

pub stops : (text : List ℕ) → ¬ (IsUtf8 text) → IsNotUtf8At text (utf8_end text)
stops text refused = record { not_utf8 = refused; longest = valid_up_to text refused; is = refl }

alone : (text : List ℕ) (position : Position) → IsNotUtf8At text position → position ≡ utf8_end text
alone text position at = at.is ∙ ap (position_at text) (sym (utf8_valid_len-IsValidUpTo text position.offset at.longest))

pub not_utf8_once : (text : List ℕ) → IsNotUtf8Once text
not_utf8_once text = record { there = stops text; alone = alone text }

-- a worked text, by computing
pub worked : (text : List ℕ) → is_utf8 text ≡ false → IsNotUtf8At text (utf8_end text)
worked text refused = stops text (not_utf8 text refused)
