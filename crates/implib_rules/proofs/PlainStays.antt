-- A text without a form of other tools is the text of its definition.
use Rattle.std.proofs.Common.{arith, ◌≡◌, ℕ, ◌==◌, ◌&&◌, ◌||◌, Bool, true, false, List, [], ◌∷◌, None, nat_lt, not, refl, ap, subst, sym}
use Rattle.std.proofs.lemmas.Bool.{true≢false, and_left, not-false}
use Rattle.std.specs.Prelude.{if◌then◌else◌, codes, nat_eq, slice_index}
use Rattle.std.specs.List.{starts_with}
use Rattle.implib.specs.Text.Token.{is_delimiter}
use Rattle.implib_rules.specs.declared.plain.Part.TheVariants.{Between, Word, Quotes, Apostrophes, Comment, Skipped, Ended, SecondSign, Blank, Digits}
use Rattle.implib_rules.specs.declared.plain.Part.{Part}
use Rattle.implib_rules.specs.declared.plain.Before.{Before}
use Rattle.implib_rules.specs.declared.plain.Before.TheVariants.{AtSign, Counted, LineStart, Name, Number, SectionStart, Sign}
use Rattle.implib_rules.specs.declared.plain.Reading.{Reading}
use Rattle.implib_rules.specs.declared.plain.Step.{Step}
use Rattle.implib_rules.specs.Plain.{after_sign, after_this_word, before_line, begins_sections, begins_statement, begins_word, beginning, between_step, first_step, hex_number, ignored, is_closed, is_space, is_wide_space, name_step, plain_from, put, step_in, step_of, word_step}
use Rattle.implib_rules.specs.PlainLaws.{PlainTextsStay, begins_form, begins_keyword, has_form}
use Rattle.implib_rules.proofs.Targets.{neither}

-- ---- what is read of such a text

abbrev plain_part : Part → Bool
plain_part Between = true
plain_part Word = true
plain_part Quotes = true
plain_part Comment = true
plain_part Ended = true
plain_part Apostrophes = false
plain_part Skipped = false
plain_part SecondSign = false
plain_part Blank = false
plain_part (Digits number) = false

abbrev plain_before : Before → Bool
plain_before SectionStart = false
plain_before LineStart = true
plain_before Name = true
plain_before Sign = true
plain_before Number = true
plain_before Counted = true
plain_before AtSign = true

-- a step keeps its byte, and reads no form after it
record Stays (b : ℕ) (step : Step) : Type 0 where
  byte : step.byte ≡ b
  part : plain_part step.reading.part ≡ true
  before : plain_before step.reading.before ≡ true

either_stays : (is : Bool) (b : ℕ) (x y : Step) → Stays b x → Stays b y → Stays b (if is then x else y)
either_stays is b x y first second = grind arith

second_stays : (is : Bool) (b : ℕ) (x y : Step) → is ≡ false → Stays b y → Stays b (if is then x else y)
second_stays is b x y free second = subst (λ i. Stays b (if i then x else y)) (sym free) second

-- a part that reads no form stays so
puts : (b : ℕ) (part : Part) (before : Before) → plain_part part ≡ true → plain_before before ≡ true → Stays b (put b part before)
puts b part before of_part of_before = record { byte = refl; part = of_part; before = of_before }

-- ---- what stands before a byte

sign_plain : (before : Before) → plain_before (after_sign before) ≡ true
sign_plain before = grind arith

line_plain : (before : Before) → plain_before before ≡ true → plain_before (before_line before) ≡ true
line_plain before plain = grind arith

either_plain : (is : Bool) (x y : Before) → plain_before x ≡ true → plain_before y ≡ true → plain_before (if is then x else y) ≡ true
either_plain is x y first second = grind arith

word_plain : (before : Before) (text : List ℕ) → plain_before (after_this_word before text) ≡ true
word_plain before text = grind (arith, either_plain)

-- ---- one byte

-- no keyword of other tools is in front of a text
record NoKeyword (text : List ℕ) : Type 0 where
  stub_path : starts_with nat_eq text (codes "STUB:") ≡ false
  description : begins_word (codes "DESCRIPTION") text ≡ false
  stub : begins_word (codes "STUB") text ≡ false
  program_type : begins_word (codes "EXETYPE") text ≡ false
  sections : begins_word (codes "SECTIONS") text ≡ false
  export_as : begins_word (codes "EXPORTAS") text ≡ false

no_keyword : (text : List ℕ) → begins_keyword text ≡ false → NoKeyword text
unfolding begins_keyword
no_keyword text none = grind (arith, neither)

no_sections : (before : Before) (text : List ℕ) → plain_before before ≡ true → NoKeyword text → begins_sections before text ≡ false
unfolding begins_sections
no_sections before text plain none = grind arith

no_number : (text : List ℕ) → starts_with nat_eq text (codes "0x") ≡ false → hex_number text ≡ None
no_number text none = rw none refl

word_stays : (before : Before) (b : ℕ) (text : List ℕ) → Stays b (word_step before b text)
word_stays before b text = puts b Word (after_this_word before text) refl (word_plain before text)

name_stays : (before : Before) (b : ℕ) (text rest : List ℕ) → NoKeyword text → hex_number text ≡ None → hex_number rest ≡ None → Stays b (name_step before b text rest)
unfolding name_step
name_stays before b text rest none here after = grind (arith, word_stays before b text)

first_stays : (before : Before) (b : ℕ) (text rest : List ℕ) → plain_before before ≡ true → NoKeyword text → hex_number text ≡ None → hex_number rest ≡ None
    → Stays b (first_step before b text rest)
unfolding first_step begins_statement
first_stays before b text rest plain none here after = grind (arith, second_stays, no_sections, name_stays)

-- no form is in front of a text of this byte and this rest
record NoForm (b : ℕ) (rest : List ℕ) : Type 0 where
  ascii : nat_lt b 128 ≡ true
  no_apostrophe : (b == 39) ≡ false
  none : NoKeyword (b ∷ rest)
  here : hex_number (b ∷ rest) ≡ None
  after : hex_number rest ≡ None

between_stays : (before : Before) (b : ℕ) (rest : List ℕ) → plain_before before ≡ true → NoForm b rest → Stays b (between_step before b (b ∷ rest) rest)
between_stays before b rest plain free =
    let text = b ∷ rest in
    let first = first_step before b text rest in
    let named = if b == 39 && is_closed rest then put 34 Apostrophes Name else first in
    let quoted = if b == 34 then put b Quotes Name else named in
    let ended = if b == 0 then put b Ended before else quoted in
    let commented = if b == 59 then put b Comment before else ended in
    let sign = b == 61 || b == 44 in
    let signed = if sign then put b Between (after_sign before) else commented in
    let space = is_space b || is_wide_space b (slice_index rest 0) (slice_index rest 1) in
    let spaced = if space then put b Between before else signed in
    either_stays (b == 10) b (put b Between (before_line before)) spaced (puts b Between (before_line before) refl (line_plain before plain))
    (either_stays space b (put b Between before) signed (puts b Between before refl plain)
    (either_stays sign b (put b Between (after_sign before)) commented (puts b Between (after_sign before) refl (sign_plain before))
    (either_stays (b == 59) b (put b Comment before) ended (puts b Comment before refl plain)
    (either_stays (b == 0) b (put b Ended before) quoted (puts b Ended before refl plain)
    (either_stays (b == 34) b (put b Quotes Name) named (puts b Quotes Name refl refl)
    (second_stays (b == 39 && is_closed rest) b (put 34 Apostrophes Name) first (and_left (b == 39) (is_closed rest) free.no_apostrophe)
    (first_stays before b text rest plain free.none free.here free.after)))))))

-- what is read for nothing stays where it is ASCII
ignored_same : (b : ℕ) → nat_lt b 128 ≡ true → ignored b ≡ b
ignored_same b is = ap (λ i. if i then b else 63) is

ignored_stays : (b : ℕ) (part : Part) (before : Before) → nat_lt b 128 ≡ true → plain_part part ≡ true → plain_before before ≡ true → Stays b (put (ignored b) part before)
ignored_stays b part before ascii of_part of_before = record { byte = ignored_same b ascii; part = of_part; before = of_before }

step_stays : (part : Part) (before : Before) (b : ℕ) (rest : List ℕ) → plain_part part ≡ true → plain_before before ≡ true → NoForm b rest
    → Stays b (step_in part before b (b ∷ rest) rest)
step_stays Between before b rest of_part plain free = between_stays before b rest plain free
step_stays Word before b rest of_part plain free =
    either_stays (is_delimiter b) b (between_step before b (b ∷ rest) rest) (put b Word before) (between_stays before b rest plain free) (puts b Word before refl plain)
step_stays Quotes before b rest of_part plain free =
    either_stays (b == 34) b (put b Between before) (put b Quotes before) (puts b Between before refl plain) (puts b Quotes before refl plain)
step_stays Comment before b rest of_part plain free = grind (arith, either_stays)
step_stays Ended before b rest of_part plain free = ignored_stays b Ended before free.ascii refl plain
step_stays Apostrophes before b rest of_part plain free = absurd (true≢false (sym of_part))
step_stays Skipped before b rest of_part plain free = absurd (true≢false (sym of_part))
step_stays SecondSign before b rest of_part plain free = absurd (true≢false (sym of_part))
step_stays Blank before b rest of_part plain free = absurd (true≢false (sym of_part))
step_stays (Digits number) before b rest of_part plain free = absurd (true≢false (sym of_part))

-- ---- the text

-- what a text that begins with no form begins with
record Begins (b : ℕ) (rest : List ℕ) : Type 0 where
  ascii : not (nat_lt b 128) ≡ false
  no_apostrophe : (b == 39) ≡ false
  no_number : starts_with nat_eq (b ∷ rest) (codes "0x") ≡ false
  no_keyword : begins_keyword (b ∷ rest) ≡ false

-- a text that has no form begins with no hexadecimal number
no_prefix : (text : List ℕ) → has_form text ≡ false → starts_with nat_eq text (codes "0x") ≡ false
unfolding has_form
no_prefix text none = grind (arith, neither, no_number)

no_form : (b : ℕ) (rest : List ℕ) → begins_form (b ∷ rest) ≡ false → has_form rest ≡ false → NoForm b rest
no_form b rest none further = grind (arith, not-false, no_keyword, no_number, no_prefix, neither)

stays : (reading : Reading) (bytes : List ℕ) → plain_part reading.part ≡ true → plain_before reading.before ≡ true → has_form bytes ≡ false
    → plain_from reading bytes ≡ bytes
unfolding plain_from has_form
stays reading [] part before none = refl
stays reading (b ∷ rest) part before none =
    let split = neither (begins_form (b ∷ rest)) (has_form rest) none in
    let step = step_stays reading.part reading.before b rest part before (no_form b rest split.0 split.1) in
    cc (step.byte, stays (step_of reading b (b ∷ rest) rest).reading rest step.part step.before split.1)

pub plain_texts_stay : PlainTextsStay
plain_texts_stay text none = stays beginning text refl refl none
