-- Where in a text an offset is, for C.
use Rattle.std.specs.Prelude.{◌≡◌, ℕ, ◌-◌, List, Some, Err, take}
use Rattle.implib.specs.declared.def.position.Position.{Position}
use Rattle.implib.specs.Text.Position.{line_and_column}
use Rattle.implib_rules.specs.declared.library.Refusal.{Refusal}
use Rattle.implib_rules.specs.Library.{IsRefusalOfBytes, position_of, without_mark}
use Rattle.implib_rules.specs.Options.{LibraryOptionsView}
use Rattle.implib_c_calls.specs.Given.{place_given}
use Rattle.implib_c_calls.specs.LibraryWith.{failure_at, mark_length}

-- What is before an offset in a text, but for a byte order mark. For example, before the offset 4
-- in this mark, which is three bytes, and `ab` it is `a`.
abbrev pub text_before : List ℕ → ℕ → List ℕ
text_before text offset = take (offset - mark_length text) (without_mark text)

-- Of the place that C has of a refused text, the line and the column are those of the refusal, as
-- the program writes them.
abbrev pub PlacesAreOfRefusals : Type 0
PlacesAreOfRefusals =
    (text : List ℕ) (options : LibraryOptionsView) (why : Refusal) (position : Position)
    → IsRefusalOfBytes text options why → position_of why ≡ Some position
    → line_and_column (text_before text (place_given (Err (failure_at text why))))
    ≡ (position.line, position.column)
