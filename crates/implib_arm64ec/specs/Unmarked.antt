-- A name loses the mark that it was given.
use Rattle.std.specs.Prelude.{◌≡◌, ◌+◌, ◌<◌, ℕ, false, true, List, None, Ok, Some, length}
use Rattle.implib.specs.Ascii.{begins_with, question_mark, without_first}
use Rattle.implib_arm64ec.specs.Marks.{mark, mark_position, number_sign, unmark}
use Rattle.implib_arm64ec.specs.Reading.{qualified_name, read}
use Rattle.implib_arm64ec.specs.declared.reading.Reading.TheVariants.{Ends}

-- `plain`: a name without a mark that is not of C++; `cplusplus`: one of C++, unless its qualified
-- name is all of it, so that the mark would be at the end.
pub record MarksAreUndone : Type 0 where
  pub plain : (name marked : List ℕ) → begins_with number_sign name ≡ false →
      begins_with question_mark name ≡ false
      → mark name ≡ Ok marked → unmark marked ≡ Some name
  pub cplusplus : (name marked : List ℕ) (place : ℕ) → begins_with question_mark name ≡ true →
      mark_position name ≡ None
      → read qualified_name (without_first name) ≡ Ends place → place + 1 < length name
      → mark name ≡ Ok marked → unmark marked ≡ Some name
