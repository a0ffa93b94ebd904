-- What `implib_imports` answers: what the members of a library are for, and import, as
-- `implib_read` has it.
use Rattle.std.specs.Prelude.{◌≡◌, ℕ, All, List, None, Some}
use Rattle.implib_read.specs.ClassViews.{member_read_view}
use Rattle.implib_read.specs.declared.class.MemberRead.{MemberRead}
use Rattle.implib_c_calls.specs.declared.imports.Row.{Row as FoundRow}
use Rattle.implib_c_calls.specs.declared.outcome.Failure.{Failure}
use Rattle.implib_c_calls.specs.declared.outcome.Failure.TheVariants.{NotALibrary, OutOfMemory}
use Rattle.implib_c_calls.specs.Given.{Encodes, EncodesSome, Leaves}
use Rattle.implib_c_calls.specs.Imports.{Fits, Row, encoded_rows, row_of, rows_in, rows_of}

-- a library has no rows: it is no archive, or memory was refused
abbrev pub LacksImports : List ℕ → Failure → Type 0
LacksImports library OutOfMemory = Unit {0}
LacksImports library NotALibrary = rows_of library ≡ None
LacksImports library _ = ⊥

-- what a call leaves, with some place: the encoding of the rows, or why there are none
abbrev pub ImportsAnswers : List ℕ → List ℕ → List ℕ → ℕ → ℕ → Type 0
ImportsAnswers library old new length_left status_left =
    (place : ℕ)
    × Leaves (Encodes encoded_rows rows_in (λ rows. rows_of library ≡ Some rows))
    (LacksImports library) old new length_left place status_left

-- Views: what the functions below `implib_imports` give each other. No promise cites them.

-- a row, as it is written
abbrev pub row_view : FoundRow → Row
row_view r = record {
  kind = r.kind;
  offset = r.offset;
  dll = r.dll.now;
  symbol = r.symbol.now;
  machine = r.machine;
  by_name = r.by_name;
  asked = r.asked.now;
  number = r.number;
}

-- the row of a member that is read
abbrev pub row_of_found : MemberRead → Row
row_of_found m = row_of (member_read_view m)

-- these are the bytes of an encoding of a library's rows
abbrev pub EncodesImports : List ℕ → List ℕ → Type 0
EncodesImports library = EncodesSome encoded_rows (All Fits) (λ rows. rows_of library ≡ Some rows)
