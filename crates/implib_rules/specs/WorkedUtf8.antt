-- Where definitions are not UTF-8, worked by hand.
use Rattle.std.specs.Prelude.{ℕ, List, ◌++◌, codes}
use Rattle.implib.specs.Worked.Digits.{hex}
use Rattle.implib_rules.specs.Library.{definition_text}
use Rattle.implib_rules.specs.Utf8.{IsNotUtf8At}

-- the text of a definition is not UTF-8 at this offset, line and column
abbrev pub IsAt : List ℕ → ℕ → ℕ → ℕ → Type 0
IsAt bytes offset line column =
    IsNotUtf8At (definition_text bytes) (record { offset = offset; line = line; column = column })

-- `é` is the byte E9 in Latin-1, and C3 A9 in UTF-8; EF BB BF is a byte order mark
pub record BytesFound : Type 0 where
  pub name : IsAt (codes "LIBRARY zoo\nEXPORTS\n caf" ++ hex "e9 0a") 24 3 5
  pub after_a_comment : IsAt (codes "; caf" ++ (hex "e9 0a" ++ (codes "caf" ++ hex "e9 0a"))) 10 2 4
  pub after_a_letter : IsAt (codes "a" ++ hex "c3 a9 ff c3 a9") 3 1 4
  pub cut_short : IsAt (codes "a" ++ hex "c3") 1 1 2
  pub cut_by_a_letter : IsAt (hex "61 0a e2 82 61") 2 2 1
  pub after_a_mark : IsAt (hex "ef bb bf 61 62 ff") 2 1 3
  pub mark_cut_short : IsAt (hex "ef bb") 0 1 1
  pub after_a_nul : IsAt (hex "61 ff 00 ff") 1 1 2
