-- The text of a definition keeps each place.
use Rattle.std.proofs.Common.{rules, ◌≡◌, ℕ, zero, suc, ◌+◌, ◌==◌, ◌&&◌, Bool, false, List, [], ◌∷◌, Option, length, nat_lt, take, refl, ap, arith}
use Rattle.std.specs.Prelude.{if◌then◌else◌}
use Rattle.std.specs.List.{fold}
use Rattle.implib.specs.declared.def.position.Position.{Position}
use Rattle.implib.specs.Text.Position.{after_byte}
use Rattle.implib.specs.Text.Token.{is_delimiter, is_line_feed}
use Rattle.implib_rules.specs.declared.plain.Part.TheVariants.{SecondSign}
use Rattle.implib_rules.specs.declared.plain.Part.{Part}
use Rattle.implib_rules.specs.declared.plain.Before.{Before}
use Rattle.implib_rules.specs.declared.plain.Before.TheVariants.{Sign}
use Rattle.implib_rules.specs.declared.plain.Decimal.{Decimal}
use Rattle.implib_rules.specs.declared.plain.Reading.{Reading}
use Rattle.implib_rules.specs.declared.plain.Step.{Step}
use Rattle.implib_rules.specs.Plain.{as_number, as_ordinal, between_step, first_step, hex_number, ignored, is_after_name, is_export_as, is_number_next, name_step, number_step, ordinal_step, plain_from, put, step_in, step_of, word_step}
use Rattle.implib_rules.specs.PlainLaws.{KeepsPlaces}

-- a text has as many bytes as it is made of
as_long : (reading : Reading) (bytes : List ℕ) → length (plain_from reading bytes) ≡ length bytes
unfolding plain_from
as_long reading [] = refl
as_long reading (b ∷ rest) = ap suc (as_long (step_of reading b (b ∷ rest) rest).reading rest)

-- ---- line feeds

-- either of two steps ends no line
chosen : (is : Bool) (x y : Step) → is_line_feed x.byte ≡ false → is_line_feed y.byte ≡ false → is_line_feed (if is then x else y).byte ≡ false
chosen is x y first second = grind arith

-- a line feed stays, and what is put for another byte ends no line
feed_or : (is : Bool) (b : ℕ) (x y : Step) → (b == 10) ≡ is → x.byte ≡ b → (is ≡ false → is_line_feed y.byte ≡ false) → is_line_feed (if is then x else y).byte ≡ is_line_feed b
feed_or test b x y is same other = grind arith

-- a digit ends no line
digit_at_feed : (none : Bool) (digit : ℕ) → is_line_feed (if none then 48 else 48 + digit) ≡ false
digit_at_feed none digit = grind arith

ordinal_feed : (before : Before) (b : ℕ) (text : List ℕ) (number : Option Decimal) → is_line_feed b ≡ false → is_line_feed (ordinal_step before b text number).byte ≡ false
ordinal_feed before b text number other = grind arith

number_feed : (before : Before) (b : ℕ) (text : List ℕ) (number : Option Decimal) → is_line_feed b ≡ false → is_line_feed (number_step before b text number).byte ≡ false
number_feed before b text number other = grind arith

name_feed : (before : Before) (b : ℕ) (text rest : List ℕ) → is_line_feed b ≡ false → is_line_feed (name_step before b text rest).byte ≡ false
unfolding name_step
name_feed before b text rest other =
    let ordinal = ordinal_step before b text (as_ordinal (hex_number rest)) in
    let number = number_step before b text (as_number before (hex_number text)) in
    let word = word_step before b text in
    let counted = if is_number_next before then number else word in
    let placed = if is_after_name before && b == 64 then ordinal else counted in
    chosen (is_after_name before && is_export_as text) (put 61 SecondSign Sign) placed refl
    (chosen (is_after_name before && b == 64) ordinal counted (ordinal_feed before b text (as_ordinal (hex_number rest)) other)
    (chosen (is_number_next before) number word (number_feed before b text (as_number before (hex_number text)) other) other))

between_feed : (before : Before) (b : ℕ) (text rest : List ℕ) → is_line_feed (between_step before b text rest).byte ≡ is_line_feed b
unfolding first_step
between_feed before b text rest = grind (arith, feed_or, chosen, name_feed)

-- what ends no word ends no line
feed_delimits : (b : ℕ) → is_delimiter b ≡ false → is_line_feed b ≡ false
feed_delimits b not = grind arith

-- a byte that is read for nothing ends a line where it did
ignored_by : (small : Bool) (b : ℕ) → nat_lt b 128 ≡ small → is_line_feed (if small then b else 63) ≡ is_line_feed b
ignored_by small b is = grind arith

closing : (is : Bool) (b : ℕ) (x y : Step) → (b == 39) ≡ is → x.byte ≡ 34 → y.byte ≡ b → is_line_feed (if is then x else y).byte ≡ is_line_feed b
closing test b x y is first second = grind arith

either : (is : Bool) (b : ℕ) (x y : Step) → x.byte ≡ b → y.byte ≡ b → is_line_feed (if is then x else y).byte ≡ is_line_feed b
either is b x y first second = grind arith

comment_feed : (is : Bool) (b : ℕ) (x y : Step) → x.byte ≡ b → y.byte ≡ ignored b → is_line_feed (if is then x else y).byte ≡ is_line_feed b
comment_feed is b x y first second = grind (arith, ignored_by)

step_feed : (part : Part) (before : Before) (b : ℕ) (text rest : List ℕ) → is_line_feed (step_in part before b text rest).byte ≡ is_line_feed b
step_feed part before b text rest = search (rules, between_feed, either, closing, comment_feed, feed_or, ignored_by, feed_delimits)

-- ---- lines and columns

same_after : (place : ℕ × ℕ) (a b : ℕ) → is_line_feed a ≡ is_line_feed b → after_byte place a ≡ after_byte place b
same_after (line, column) a b same = ap (λ is. if is then (line + 1, 1) else (line, column + 1)) same

counted : (reading : Reading) (bytes : List ℕ) (offset : ℕ) (place : ℕ × ℕ) → fold after_byte place (take offset (plain_from reading bytes)) ≡ fold after_byte place (take offset bytes)
unfolding plain_from
counted reading [] offset place = refl
counted reading (b ∷ rest) zero place = refl
counted reading (b ∷ rest) (suc offset) place =
    rw (same_after place _ b (step_feed reading.part reading.before b (b ∷ rest) rest)) (counted (step_of reading b (b ∷ rest) rest).reading rest offset (after_byte place b))

position_from : ℕ → ℕ × ℕ → Position
position_from offset place = record { offset = offset; line = place.0; column = place.1 }

pub places_kept : (bytes : List ℕ) → KeepsPlaces bytes
unfolding position_from
places_kept bytes = grind (arith, as_long, position_from, counted)
