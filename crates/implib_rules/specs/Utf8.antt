-- Where a text is not UTF-8.
use Rattle.std.specs.Prelude.{◌≡◌, ℕ, List}
use Rattle.std.specs.Str.{IsUtf8, IsValidUpTo}
use Rattle.std.specs.Str.Lossy.{utf8_valid_len}
use Rattle.implib.specs.declared.def.position.Position.{Position}
use Rattle.implib.specs.Text.Position.{position_at}

-- A text is not UTF-8, and its first byte that is not is at this position: what is before the byte
-- is the longest beginning of the text that is UTF-8 (`IsValidUpTo`). Of a letter that is cut short
-- it is the first byte.
pub record IsNotUtf8At (text : List ℕ) (position : Position) : Type 0 where
  pub not_utf8 : ¬ (IsUtf8 text)
  pub longest : IsValidUpTo text position.offset
  pub is : position ≡ position_at text position.offset

-- the position after the longest beginning of a text that is UTF-8, by computing
abbrev pub utf8_end : List ℕ → Position
utf8_end text = position_at text (utf8_valid_len text)

-- each text that is not UTF-8 is so at one position
pub record IsNotUtf8Once (text : List ℕ) : Type 0 where
  pub there : ¬ (IsUtf8 text) → IsNotUtf8At text (utf8_end text)
  pub alone : (position : Position) → IsNotUtf8At text position → position ≡ utf8_end text

abbrev pub TextsAreNotUtf8Once : Type 0
TextsAreNotUtf8Once = (text : List ℕ) → IsNotUtf8Once text
