-- What is proved of the text of a definition.
use Rattle.std.specs.Prelude.{◌≡◌, ◌==◌, ◌||◌, ℕ, Bool, false, not, List, [], ◌∷◌, codes, length}
use Rattle.std.specs.Prelude.{nat_eq, nat_lt}
use Rattle.std.specs.List.{starts_with}
use Rattle.implib.specs.Ascii.{begins}
use Rattle.implib.specs.Text.Position.{position_at}
use Rattle.implib_rules.specs.Plain.{begins_word, plain_text}

-- The text of bytes has as many, and each offset is in the line and the column where it is in the
-- bytes.
pub record KeepsPlaces (bytes : List ℕ) : Type 0 where
  pub as_long : length (plain_text bytes) ≡ length bytes
  pub positions : (offset : ℕ) → position_at (plain_text bytes) offset ≡ position_at bytes offset

abbrev pub PlacesAreKept : Type 0
PlacesAreKept = (bytes : List ℕ) → KeepsPlaces bytes

-- a keyword that other tools have, and the grammar of `implib` lacks, as a word; or `STUB:`
unfoldable pub begins_keyword : List ℕ → Bool
begins_keyword text =
    starts_with nat_eq text (codes "STUB:") || begins_word (codes "DESCRIPTION") text
    || begins_word (codes "STUB") text || begins_word (codes "EXETYPE") text
    || begins_word (codes "SECTIONS") text || begins_word (codes "EXPORTAS") text

-- what a form of other tools may begin with: a byte that is not ASCII, `'`, `0x`, or such a keyword
abbrev pub begins_form : List ℕ → Bool
begins_form text =
    begins (λ b. not (nat_lt b 128)) text || begins (λ b. b == 39) text
    || starts_with nat_eq text (codes "0x") || begins_keyword text

-- Whether such a form may begin somewhere in a text, in quotes or in a comment too.
unfoldable pub has_form : List ℕ → Bool
has_form [] = false
has_form (b ∷ rest) = begins_form (b ∷ rest) || has_form rest

-- A text without such a form is the text of its definition as it is: nothing is changed of what the
-- grammar of `implib` has.
abbrev pub PlainTextsStay : Type 0
PlainTextsStay = (text : List ℕ) → has_form text ≡ false → plain_text text ≡ text
