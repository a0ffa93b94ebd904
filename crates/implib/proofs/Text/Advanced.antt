-- Lines and columns after more bytes of a text.
use Rattle.std.proofs.Common.{◌≡◌, ◌∙◌, ℕ, zero, suc, refl, ◌+◌, ◌-◌, ◌≤◌, Bool, true, false, List, [], ◌∷◌, ◌++◌, ap, arith, drop, if◌then◌else◌, length, sym, take}
use Rattle.std.specs.List.{fold}
use Rattle.std.proofs.lemmas.List.{length-drop, take-append-drop}
use Rattle.std.proofs.lemmas.List.Sums.{fold-append}
use Rattle.implib.specs.Text.Position.{after_byte, line_and_column, position_at}
use Rattle.implib.specs.Text.Token.{is_line_feed}

line_step : (line column : ℕ) (bytes : List ℕ) (ends : Bool)
    → ((l c : ℕ) → (fold after_byte (l, c) bytes).0 ≤ l + length bytes)
    → (fold after_byte (if ends then (line + 1, 1) else (line, column + 1)) bytes).0 ≤ line + suc (length bytes)
line_step line column bytes true rest = let h = rest (line + 1) 1 in omega (arith, h)
line_step line column bytes false rest = let h = rest line (column + 1) in omega (arith, h)

-- each byte ends a line at most
pub line_below : (line column : ℕ) (bytes : List ℕ) → (fold after_byte (line, column) bytes).0 ≤ line + length bytes
line_below line column [] = omega arith
line_below line column (b ∷ bytes) = line_step line column bytes (is_line_feed b) (λ l c. line_below l c bytes)

column_step : (line column : ℕ) (bytes : List ℕ) (ends : Bool)
    → ((l c : ℕ) → (fold after_byte (l, c) bytes).1 ≤ c + length bytes)
    → (fold after_byte (if ends then (line + 1, 1) else (line, column + 1)) bytes).1 ≤ column + suc (length bytes)
column_step line column bytes true rest = let h = rest (line + 1) 1 in omega (arith, h)
column_step line column bytes false rest = let h = rest line (column + 1) in omega (arith, h)

-- each byte is a column at most
pub column_below : (line column : ℕ) (bytes : List ℕ) → (fold after_byte (line, column) bytes).1 ≤ column + length bytes
column_below line column [] = omega arith
column_below line column (b ∷ bytes) = column_step line column bytes (is_line_feed b) (λ l c. column_below l c bytes)

-- a beginning of a longer beginning
pub take_within : (from offset : ℕ) (text : List ℕ) → from ≤ offset → take from (take offset text) ≡ take from text
take_within zero offset text order = refl
take_within (suc from) zero text order = absurd (omega (arith, order))
take_within (suc from) (suc offset) [] order = refl
take_within (suc from) (suc offset) (b ∷ text) order = ap (λ t. b ∷ t) (take_within from offset text (omega (arith, order)))

-- line and column of an offset, from those of one before it
pub advanced_to : (text front rest : List ℕ) (from offset : ℕ) → from ≤ offset → front ≡ take offset text → rest ≡ drop from front
    → fold after_byte (line_and_column (take from text)) rest ≡ line_and_column (take offset text)
advanced_to text front rest from offset order front_is rest_is =
    ap (λ t. fold after_byte (line_and_column t) rest) (sym (take_within from offset text order) ∙ ap (take from) (sym front_is))
    ∙ sym (fold-append after_byte (1, 1) (take from front) rest)
    ∙ ap (λ t. line_and_column (take from front ++ t)) rest_is
    ∙ ap line_and_column (take-append-drop from front ∙ front_is)

-- a beginning is not longer than the whole
pub take_shorter : (n : ℕ) (text : List ℕ) → length (take n text) ≤ length text
take_shorter zero text = omega arith
take_shorter (suc n) [] = omega arith
take_shorter (suc n) (b ∷ text) = let fewer = take_shorter n text in omega (arith, fewer)

-- a text of so many bytes has no more lines and columns
pub line_within : (text : List ℕ) (offset : ℕ) → (position_at text offset).line ≤ length text + 1
line_within text offset = grind (arith, line_below, take_shorter)

pub column_within : (text : List ℕ) (offset : ℕ) → (position_at text offset).column ≤ length text + 1
column_within text offset = grind (arith, column_below, take_shorter)

-- at the end of what is left
pub whole_rest : (index : ℕ) (rest : List ℕ) → length rest ≤ index → take index rest ≡ rest
whole_rest zero [] end = refl
whole_rest zero (b ∷ rest) end = absurd (omega (arith, end))
whole_rest (suc index) [] end = refl
whole_rest (suc index) (b ∷ rest) end = ap (λ t. b ∷ t) (whole_rest index rest (omega (arith, end)))

-- what is left after so many bytes
pub left : (front : List ℕ) (from : ℕ) → take (length front - from) (drop from front) ≡ drop from front
left front from = whole_rest (length front - from) (drop from front) (let long = length-drop from front in omega (arith, long))

pub left_shorter : (front : List ℕ) (from : ℕ) → length (take (length front - from) (drop from front)) ≤ length front
left_shorter front from = grind (arith, left, length-drop)
