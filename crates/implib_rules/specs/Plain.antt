-- The text of a definition in the grammar of `implib` (docs/GRAMMAR.md): what other tools take in a
-- definition and that grammar lacks, in its words, byte for byte, so that every place stays what it
-- is (docs/DLLTOOL.md, "What a definition may hold").
use Rattle.std.specs.Prelude.{ℕ, ◌+◌, ◌-◌, ◌*◌, ◌/◌, ◌%◌, ◌^◌, Bool, true, false, not, ◌==◌, ◌&&◌}
use Rattle.std.specs.Prelude.{◌||◌, List, [], ◌∷◌, Option, None, Some, codes, drop, if◌then◌else◌}
use Rattle.std.specs.Prelude.{length, nat_eq, nat_lt, slice_index, take_while}
use Rattle.std.specs.Char.{is_ascii_digit}
use Rattle.std.specs.List.{fold, starts_with}
use Rattle.implib.specs.Ascii.{begins}
use Rattle.implib.specs.Text.Token.{is_delimiter}
use Rattle.implib_rules.specs.declared.plain.Before.{Before}
use Rattle.implib_rules.specs.declared.plain.Before.TheVariants.{LineStart, SectionStart, Name}
use Rattle.implib_rules.specs.declared.plain.Before.TheVariants.{Sign, Number, Counted, AtSign}
use Rattle.implib_rules.specs.declared.plain.Decimal.{Decimal}
use Rattle.implib_rules.specs.declared.plain.Part.{Part}
use Rattle.implib_rules.specs.declared.plain.Part.TheVariants.{Between, Word, Quotes, Apostrophes}
use Rattle.implib_rules.specs.declared.plain.Part.TheVariants.{Comment, Skipped, Ended, SecondSign}
use Rattle.implib_rules.specs.declared.plain.Part.TheVariants.{Blank, Digits}
use Rattle.implib_rules.specs.declared.plain.Reading.{Reading}
use Rattle.implib_rules.specs.declared.plain.Step.{Step}

-- ---- what stands at the front of a text

-- a space or a tab
abbrev pub is_blank : ℕ → Bool
is_blank b = b == 32 || b == 9

-- white space of one byte
abbrev pub is_space : ℕ → Bool
is_space b = b == 32 || b == 9 || b == 10 || b == 11 || b == 12 || b == 13

-- a blank or a comma
abbrev pub is_blank_or_comma : ℕ → Bool
is_blank_or_comma b = is_blank b || b == 44

-- a byte of a word
abbrev pub is_of_word : ℕ → Bool
is_of_word b = not (is_delimiter b)

-- a text after all bytes in front that pass a test
abbrev pub after_all : (ℕ → Bool) → List ℕ → List ℕ
after_all test text = drop (length (take_while test text)) text

-- a word ends before this text
abbrev pub ends_word : List ℕ → Bool
ends_word [] = true
ends_word (b ∷ rest) = is_delimiter b

-- a text begins with this word, and not with a longer one
abbrev pub begins_word : List ℕ → List ℕ → Bool
begins_word word text = starts_with nat_eq text word && ends_word (drop (length word) text)

-- a quoted name is next in the line
abbrev pub is_quoted_next : List ℕ → Bool
is_quoted_next text = begins (λ b. b == 34 || b == 39) (after_all is_blank text)

-- a name may be next in the line: something is, and it is no sign, no comment and no NUL
abbrev pub is_name_next : List ℕ → Bool
is_name_next text = begins (λ b. not (is_delimiter b) && not (b == 0)) (after_all is_blank text)

-- a system that a program of Windows 3 may be for (Microsoft's EXETYPE)
unfoldable pub is_system : List ℕ → Bool
is_system text = begins_word (codes "WINDOWS") text || begins_word (codes "OS2") text
    || begins_word (codes "DOS4") text || begins_word (codes "UNKNOWN") text

-- a keyword, and a quoted name in its line
abbrev pub is_quoted_after : List ℕ → List ℕ → Bool
is_quoted_after word text = begins_word word text && is_quoted_next (drop (length word) text)

-- EXETYPE and a system
abbrev pub is_program_type : List ℕ → Bool
is_program_type text =
    begins_word (codes "EXETYPE") text && is_system (after_all is_blank (drop 7 text))

-- A statement of one line that is of no account for an import library: DESCRIPTION or STUB and a
-- text in quotes, `STUB:` and a path, EXETYPE and a system (Microsoft's module-definition
-- statements; GNU dlltool's DESCRIPTION).
abbrev pub is_statement : List ℕ → Bool
is_statement text =
    is_quoted_after (codes "DESCRIPTION") text || is_quoted_after (codes "STUB") text
    || starts_with nat_eq text (codes "STUB:") || is_program_type text

-- an attribute of a section (Microsoft's SECTIONS, and GNU dlltool's)
abbrev pub is_section_attribute : List ℕ → Bool
is_section_attribute text =
    begins_word (codes "READ") text || begins_word (codes "WRITE") text
    || begins_word (codes "EXECUTE") text || begins_word (codes "SHARED") text
    || begins_word (codes "NONSHARED") text || begins_word (codes "SINGLE") text
    || begins_word (codes "MULTIPLE") text || begins_word (codes "CLASS") text

-- a line of a section: a word, and an attribute of a section
abbrev pub is_section_line : List ℕ → Bool
is_section_line text =
    is_section_attribute (after_all is_blank_or_comma (after_all is_of_word text))

-- SECTIONS with a line of a section next
abbrev pub is_sections : List ℕ → Bool
is_sections text =
    begins_word (codes "SECTIONS") text && is_section_line (after_all is_space (drop 8 text))

-- EXPORTAS with a name next in its line (llvm-dlltool)
abbrev pub is_export_as : List ℕ → Bool
is_export_as text = begins_word (codes "EXPORTAS") text && is_name_next (drop 8 text)

-- a byte that may be in a name in `'`
abbrev pub is_in_apostrophes : ℕ → Bool
is_in_apostrophes b = not (b == 39) && not (b == 34) && not (b == 10)

-- after a `'`: another one ends the name in its line, and no `"` is in it
abbrev pub is_closed : List ℕ → Bool
is_closed text = begins (λ b. b == 39) (after_all is_in_apostrophes text)

-- the value of a hexadecimal digit
abbrev pub hex_digit : ℕ → Option ℕ
hex_digit b =
    if is_ascii_digit b then Some (b - 48)
    else if nat_lt 96 b && nat_lt b 103 then Some (b - 87)
    else if nat_lt 64 b && nat_lt b 71 then Some (b - 55)
    else None

-- one more hexadecimal digit; there is no number where it would grow too large
abbrev pub with_digit : Decimal → Option ℕ → Option Decimal
with_digit number None = None
with_digit number (Some digit) =
    if nat_lt number.value (10 ^ 17) && nat_lt number.power (10 ^ 18)
    then Some (record { value = number.value * 16 + digit; power = number.power * 10 }) else None

abbrev pub hex_on : Option Decimal → ℕ → Option Decimal
hex_on None b = None
hex_on (Some number) b = with_digit number (hex_digit b)

-- a number that has no more decimal digits than the power of its first place allows
abbrev pub fitting : Option Decimal → Option Decimal
fitting None = None
fitting (Some number) =
    if not (number.power == 0) && nat_lt (number.value / number.power) 10 then Some number else None

-- The number of a word as GNU dlltool writes it in hexadecimal: `0x` and digits. Its first place is
-- that of the word's first byte, so it takes as many decimal digits as the word has bytes. For
-- example, `0x10` is 0016. There is none where the decimal number is longer than the word, as
-- `0x7FF700000000`.
abbrev pub hex_number : List ℕ → Option Decimal
hex_number text =
    if starts_with nat_eq text (codes "0x")
    && nat_lt 0 (length (take_while is_of_word (drop 2 text)))
    then fitting (fold hex_on (Some (record { value = 0; power = 10 }))
    (take_while is_of_word (drop 2 text))) else None

-- a number that is an ordinal: of 16 bits
abbrev pub as_ordinal : Option Decimal → Option Decimal
as_ordinal None = None
as_ordinal (Some number) = if nat_lt number.value 65536 then Some number else None

-- ---- where in a line a byte stands

-- what stands before the next line: the lines of SECTIONS may go on after it
abbrev pub before_line : Before → Before
before_line SectionStart = SectionStart
before_line _ = LineStart

-- no lexeme of the line is before this
abbrev pub is_line_start : Before → Bool
is_line_start LineStart = true
is_line_start SectionStart = true
is_line_start _ = false

abbrev pub is_section_start : Before → Bool
is_section_start SectionStart = true
is_section_start _ = false

-- a name or an attribute is before this, in the line
abbrev pub is_after_name : Before → Bool
is_after_name Name = true
is_after_name _ = false

-- a word that a number follows, or a number of several, is before this, in the line
abbrev pub is_after_number : Before → Bool
is_after_number Number = true
is_after_number Counted = true
is_after_number _ = false

-- a number may be next: one of a keyword's, or an ordinal after a lone `@`; after a number a sign
-- comes first
abbrev pub is_number_next : Before → Bool
is_number_next Number = true
is_number_next AtSign = true
is_number_next _ = false

-- a number that may be next: an ordinal after a lone `@`
abbrev pub as_number : Before → Option Decimal → Option Decimal
as_number AtSign number = as_ordinal number
as_number _ number = number

-- after a number: after an ordinal what follows a name, and else a sign and further numbers
abbrev pub after_number : Before → Before
after_number AtSign = Name
after_number _ = Counted

-- after a sign
abbrev pub after_sign : Before → Before
after_sign before = if is_after_number before then Number else Sign

-- the word is a keyword that a name follows
abbrev pub wants_name : List ℕ → Bool
wants_name text = begins_word (codes "EXPORTS") text || begins_word (codes "LIBRARY") text
    || begins_word (codes "NAME") text

-- the word is a keyword that a number follows
abbrev pub wants_number : List ℕ → Bool
wants_number text = begins_word (codes "BASE") text || begins_word (codes "HEAPSIZE") text
    || begins_word (codes "STACKSIZE") text

-- after the word at the front of a text
abbrev pub after_this_word : Before → List ℕ → Before
after_this_word before text =
    if wants_name text then Sign
    else if wants_number text then Number
    else if is_after_name before && begins_word (codes "@") text then AtSign
    else if is_number_next before && begins is_ascii_digit text then after_number before
    else Name

-- ---- one byte

-- one byte of the text, and what is then read
abbrev pub put : ℕ → Part → Before → Step
put byte part before = record { byte = byte; reading = record { part = part; before = before } }

-- a byte that is read for nothing: `?` in place of one that is not ASCII
abbrev pub ignored : ℕ → ℕ
ignored b = if nat_lt b 128 then b else 63

-- the digit of a number at the place of its power
abbrev pub digit_of : Decimal → ℕ
digit_of number = if number.power == 0 then 48 else 48 + number.value / number.power % 10

-- a number after its first digit
abbrev pub after_digit : Decimal → Decimal
after_digit number =
    if number.power == 0 then number
    else record { value = number.value % number.power; power = number.power / 10 }

-- the first byte of a word that stays
abbrev pub word_step : Before → ℕ → List ℕ → Step
word_step before b text = put b Word (after_this_word before text)

-- an ordinal after a name, if it is `@` and a hexadecimal number
abbrev pub ordinal_step : Before → ℕ → List ℕ → Option Decimal → Step
ordinal_step before b text None = word_step before b text
ordinal_step before b text (Some number) = put b (Digits number) Name

-- a number, if it is a hexadecimal one
abbrev pub number_step : Before → ℕ → List ℕ → Option Decimal → Step
number_step before b text None = word_step before b text
number_step before b text (Some number) =
    put (digit_of number) (Digits (after_digit number)) (after_number before)

-- the first byte of a word that is no statement
unfoldable pub name_step : Before → ℕ → List ℕ → List ℕ → Step
name_step before b text rest =
    if is_after_name before && is_export_as text then put 61 SecondSign Sign
    else if is_after_name before && b == 64
    then ordinal_step before b text (as_ordinal (hex_number rest))
    else if is_number_next before
    then number_step before b text (as_number before (hex_number text))
    else word_step before b text

-- a statement of one line, at the beginning of a line
unfoldable pub begins_statement : Before → List ℕ → Bool
begins_statement before text = is_line_start before && is_statement text

-- SECTIONS, or one of its lines, at the beginning of a line
unfoldable pub begins_sections : Before → List ℕ → Bool
begins_sections before text =
    (is_line_start before && is_sections text) || (is_section_start before && is_section_line text)

-- the first byte of a word
unfoldable pub first_step : Before → ℕ → List ℕ → List ℕ → Step
first_step before b text rest =
    if begins_statement before text then put 32 Skipped LineStart
    else if begins_sections before text then put 32 Skipped SectionStart
    else name_step before b text rest

-- the last two bytes of white space from U+2000 on
abbrev pub is_general_space : ℕ → ℕ → Bool
is_general_space second third =
    if second == 0x80 then (not (nat_lt third 0x80) && nat_lt third 0x8B) || third == 0xA8 || third
    == 0xA9 || third == 0xAF
    else second == 0x81 && third == 0x9F

-- The byte is of white space that is not ASCII (`char::is_whitespace`), by the bytes after it: its
-- first byte, or one that begins no character.
abbrev pub is_wide_space : ℕ → ℕ → ℕ → Bool
is_wide_space first second third =
    if first == 0xC2 then second == 0x85 || second == 0xA0
    else if first == 0xE1 then second == 0x9A && third == 0x80
    else if first == 0xE2 then is_general_space second third
    else if first == 0xE3 then second == 0x80 && third == 0x80
    else not (nat_lt first 128) && nat_lt first 192

-- a byte between lexemes
abbrev pub between_step : Before → ℕ → List ℕ → List ℕ → Step
between_step before b text rest =
    if b == 10 then put b Between (before_line before)
    else if is_space b || is_wide_space b (slice_index rest 0) (slice_index rest 1)
    then put b Between before
    else if b == 61 || b == 44 then put b Between (after_sign before)
    else if b == 59 then put b Comment before
    else if b == 0 then put b Ended before
    else if b == 34 then put b Quotes Name
    else if b == 39 && is_closed rest then put 34 Apostrophes Name
    else first_step before b text rest

-- a byte of a word, or after it
abbrev pub step_in_word : Step → Before → ℕ → List ℕ → List ℕ → Step
step_in_word inside before b text rest =
    if is_delimiter b then between_step before b text rest else inside

-- One byte of a definition, by what is read there, with the text that it begins, and with the rest
-- of that.
abbrev pub step_in : Part → Before → ℕ → List ℕ → List ℕ → Step
step_in Between before b text rest = between_step before b text rest
step_in Word before b text rest = step_in_word (put b Word before) before b text rest
step_in Quotes before b text rest = if b == 34 then put b Between before else put b Quotes before
step_in Apostrophes before b text rest =
    if b == 39 then put 34 Between before else put b Apostrophes before
step_in Comment before b text rest =
    if b == 10 then put b Between (before_line before) else put (ignored b) Comment before
step_in Skipped before b text rest = if b == 10 then put b Between before else put 32 Skipped before
step_in Ended before b text rest = put (ignored b) Ended before
step_in SecondSign before b text rest = step_in_word (put 61 Blank before) before b text rest
step_in Blank before b text rest = step_in_word (put 32 Blank before) before b text rest
step_in (Digits number) before b text rest =
    step_in_word (put (digit_of number) (Digits (after_digit number)) before) before b text rest

abbrev pub step_of : Reading → ℕ → List ℕ → List ℕ → Step
step_of reading b text rest = step_in reading.part reading.before b text rest

-- ---- the text

-- at the beginning of a text
abbrev pub beginning : Reading
beginning = record { part = Between; before = LineStart }

-- the text of these bytes, from a place on
unfoldable pub plain_from : Reading → List ℕ → List ℕ
plain_from reading [] = []
plain_from reading (b ∷ rest) =
    (step_of reading b (b ∷ rest) rest).byte
    ∷ plain_from (step_of reading b (b ∷ rest) rest).reading rest

-- The text of a definition in the grammar of `implib`.
abbrev pub plain_text : List ℕ → List ℕ
plain_text bytes = plain_from beginning bytes
