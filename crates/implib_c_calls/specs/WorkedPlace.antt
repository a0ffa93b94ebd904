-- Lines and columns for C, and byte order marks, worked by hand.
use Rattle.std.specs.Prelude.{◌≡◌, codes}
use Rattle.implib.specs.Text.Position.{line_and_column}
use Rattle.implib.specs.Worked.Digits.{hex}
use Rattle.implib_c_calls.specs.LibraryWith.{mark_length}
use Rattle.implib_c_calls.specs.Place.{text_before}

-- Offsets in `a`, a line feed and `bc`; in the same with a byte that no text in UTF-8 has before
-- `c`; in a comment in Latin-1, and after it; after a byte order mark, and in it; and in a letter
-- of two bytes, `é`; and how many bytes are a byte order mark.
pub record WorkedPlaces : Type 0 where
  pub line_feed : line_and_column (text_before (codes "a\nbc") 1) ≡ (1, 2)
  pub second_line : line_and_column (text_before (codes "a\nbc") 2) ≡ (2, 1)
  pub end : line_and_column (text_before (codes "a\nbc") 4) ≡ (2, 3)
  pub behind_the_end : line_and_column (text_before (codes "a\nbc") 5) ≡ (2, 3)
  pub in_a_comment : line_and_column (text_before (hex "3b e9 20 e4 0a 61 62") 3) ≡ (1, 4)
  pub in_a_mark : line_and_column (text_before (hex "ef bb bf 61 62") 2) ≡ (1, 1)
  pub lines_after_a_mark : line_and_column (text_before (hex "ef bb bf 61 0a 62 ff") 6) ≡ (2, 2)
  pub marked : mark_length (hex "ef bb bf 4e 41") ≡ 3
  pub mark_alone : mark_length (hex "ef bb bf") ≡ 3
  pub half_a_mark : mark_length (hex "ef bb") ≡ 0
  pub unmarked : mark_length (codes "NAME a") ≡ 0
