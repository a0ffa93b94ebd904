-- How warnings are encoded for C, and how an encoding is read (this project's choice).
use Rattle.std.specs.Prelude.{◌≡◌, ℕ, ◌+◌, ◌<◌, ◌^◌, List, ◌++◌, Option, map}
use Rattle.implib_c_calls.specs.Encoding.{encoded_list, encoded_number, encoded_text, found}
use Rattle.implib_c_calls.specs.Encoding.{list_in, number_in, text_in, then_in}
use Rattle.implib_rules.specs.Warnings as rules
use Rattle.implib_rules.specs.Warnings.{NoticeView, WarningView}

-- of which kind a warning is, and where: its offset in the text as it is passed, and the line and
-- the column that the program writes, in which a byte order mark does not count
pub record Warned : Type 0 where
  pub kind : ℕ
  pub offset : ℕ
  pub line : ℕ
  pub column : ℕ

-- a warning in words
pub record Said : Type 0 where
  pub warned : Warned
  pub words : List ℕ

-- the number of a kind
abbrev pub kind_number : NoticeView → ℕ
kind_number rules.HasNoExport = 1
kind_number rules.IsOtherKind = 2
kind_number (rules.IsRepeated word first) = 3
kind_number (rules.RepeatsOrdinal ordinal first) = 4
kind_number (rules.OpensLine attribute word) = 5
kind_number (rules.IsLowered word attribute) = 6
kind_number (rules.IsOrdinalLike word) = 7
kind_number (rules.IsStdcall word) = 8
kind_number (rules.IsNotExported word) = 9
kind_number rules.IsSecondHeading = 10
kind_number rules.IsSkipped = 11
kind_number rules.EndsEarly = 12
kind_number (rules.StandsAlone word) = 13
kind_number (rules.IsLate word) = 14
kind_number (rules.IsCommentLike word) = 15
kind_number (rules.IsWeak word) = 16

-- a warning of a text whose byte order mark has this length
abbrev pub warned_of : ℕ → WarningView → Warned
warned_of mark warning = record {
  kind = kind_number warning.notice;
  offset = mark + warning.position.offset;
  line = warning.position.line;
  column = warning.position.column;
}

-- the warnings are said so, in some words
abbrev pub AreSaid : ℕ → List WarningView → List Said → Type 0
AreSaid mark warnings said = map (λ (s : Said). s.warned) said ≡ map (warned_of mark) warnings

-- What is written.

-- a warning: its kind, its offset, line and column, and its words
unfoldable pub encoded_said : Said → List ℕ
encoded_said s =
    encoded_number s.warned.kind
    ++ (encoded_number s.warned.offset
    ++ (encoded_number s.warned.line
    ++ (encoded_number s.warned.column
    ++ encoded_text s.words)))

-- the warnings, in order
unfoldable pub encoded_warnings : List Said → List ℕ
encoded_warnings said = encoded_list encoded_said said

-- How it is read. Each reader gives what it finds at the front, and the bytes after it.

-- a warning
unfoldable pub said_in : List ℕ → Option (Said × List ℕ)
said_in =
    then_in number_in
    (λ kind. then_in number_in
    (λ offset. then_in number_in
    (λ line. then_in number_in
    (λ column. then_in text_in
    (λ words. found (record {
      warned = record { kind = kind; offset = offset; line = line; column = column };
      words = words;
    }))))))

-- the warnings at the front of a buffer, and what follows them
unfoldable pub warnings_in : List ℕ → Option (List Said × List ℕ)
warnings_in = list_in said_in

-- the numbers have 64 bits
pub record Fits (s : Said) : Type 0 where
  pub kind : s.warned.kind < 2 ^ 64
  pub offset : s.warned.offset < 2 ^ 64
  pub line : s.warned.line < 2 ^ 64
  pub column : s.warned.column < 2 ^ 64
