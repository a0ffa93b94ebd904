-- Positions, and the tokens that refusals name, worked by hand.
use Rattle.std.specs.Prelude.{◌≡◌, ℕ, List, [], ◌∷◌, ◌++◌, take, codes}
use Rattle.implib.specs.declared.def.lexer.TokenKind.TheVariants as kind
use Rattle.implib.specs.Fault.{Cause, UnknownDirective, ExpectedIdentifier, ExpectedEqual}
use Rattle.implib.specs.Fault.{ExpectedInteger, InvalidOrdinal, LoneAt}
use Rattle.implib.specs.Text.Parses.{RefusesAt}
use Rattle.implib.specs.Text.Position.{line_and_column}

-- line and column after texts
pub record WorkedLines : Type 0 where
  pub beginning : line_and_column [] ≡ (1, 1)
  pub one_byte : line_and_column (codes "N") ≡ (1, 2)
  pub whole_line : line_and_column (codes "NAME a") ≡ (1, 7)
  pub next_line : line_and_column (codes "NAME a\n") ≡ (2, 1)
  pub in_next_line : line_and_column (codes "NAME a\nfo") ≡ (2, 3)
  pub empty_lines : line_and_column (codes "\n\n") ≡ (3, 1)
  -- carriage return and line feed end one line; a carriage return alone ends none
  pub both_ends : line_and_column (codes "a\r\nb") ≡ (2, 2)
  pub before_line_feed : line_and_column (codes "a\r") ≡ (1, 3)
  pub carriage_return : line_and_column (codes "a\rb") ≡ (1, 4)
  pub tab : line_and_column (codes "\ta") ≡ (1, 3)
  -- `ü` is two bytes
  pub two_bytes : line_and_column (195 ∷ 188 ∷ []) ≡ (1, 3)

-- the text is refused for the cause, at a token at this offset, in this line and this column
abbrev pub IsRefusedIn : List ℕ → Cause → ℕ → ℕ → ℕ → Type 0
IsRefusedIn text cause offset line column =
    RefusesAt text cause offset × (line_and_column (take offset text) ≡ (line, column))

-- texts that are refused, and where
pub record WorkedPositions : Type 0 where
  pub first_word : IsRefusedIn (codes "foo") (UnknownDirective (codes "foo")) 0 1 1
  pub after_blanks : IsRefusedIn (codes "\n  foo") (UnknownDirective (codes "foo")) 3 2 3
  pub after_comment : IsRefusedIn (codes "; x\r\n,") (UnknownDirective (codes ",")) 5 2 1
  pub no_name_without_ordinal : IsRefusedIn (codes "EXPORTS\n f\n g NONAME")
      (UnknownDirective (codes "NONAME")) 14 3 4
  pub second_target : IsRefusedIn (codes "EXPORTS\nfoo = bar =") (UnknownDirective (codes "=")) 18 2
      11
  pub missing_size : IsRefusedIn (codes "HEAPSIZE 1,") (ExpectedIdentifier kind.Eof) 11 1 12
  pub missing_size_before_nul : IsRefusedIn (codes "STACKSIZE " ++ 0 ∷ codes "5")
      (ExpectedIdentifier kind.Eof) 10 1 11
  pub missing_size_at_last_line : IsRefusedIn (codes "STACKSIZE\n\n") (ExpectedIdentifier kind.Eof)
      11 3 1
  pub negative_size : IsRefusedIn (codes "NAME a\nHEAPSIZE -1") ExpectedInteger 16 2 10
  -- of a quoted name, its value counts, and after the quote where the value is empty
  pub quoted_size : IsRefusedIn (codes "HEAPSIZE \" x \"") ExpectedInteger 11 1 12
  pub unclosed_size : IsRefusedIn (codes "HEAPSIZE \"1") ExpectedInteger 10 1 11
  pub three_numbers : IsRefusedIn (codes "VERSION 1.2.3") ExpectedInteger 8 1 9
  pub base_without_sign : IsRefusedIn (codes "NAME x BASE 5") (ExpectedEqual kind.Identifier) 12 1
      13
  pub alias_without_word : IsRefusedIn (codes "EXPORTS D ===") (ExpectedIdentifier kind.Equal) 12 1
      13
  pub lone_at : IsRefusedIn (codes "EXPORTS 8=\n@") LoneAt 11 2 1
  pub word_for_ordinal : IsRefusedIn (codes "EXPORTS\nf @ x") (InvalidOrdinal (codes "x")) 12 2 5
  pub end_for_ordinal : IsRefusedIn (codes "EXPORTS\nf @") (ExpectedIdentifier kind.Eof) 11 2 4
  -- a byte order mark begins a word
  pub byte_order_mark : IsRefusedIn (239 ∷ 187 ∷ 191 ∷ codes "NAME")
      (UnknownDirective (239 ∷ 187 ∷ 191 ∷ codes "NAME")) 0 1 1
