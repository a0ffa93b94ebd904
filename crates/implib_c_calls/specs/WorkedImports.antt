-- Rows of a library that was worked by hand, an encoding byte by byte, and a buffer that is read.
use Rattle.std.specs.Prelude.{◌≡◌, ℕ, List, [], ◌∷◌, ◌++◌, None, Some, codes, map}
use Rattle.implib.specs.Worked.Digits.{hex}
use Rattle.implib_read.specs.Classes.{AnAlias, DelayImport, NotUnderstood, Other}
use Rattle.implib_read.specs.WorkedLibraries.{member, worked_ld}
use Rattle.implib_read.specs.declared.import.ImportKind.TheVariants.{Code, CodeOrConst, Const, Data}
use Rattle.implib_read.specs.declared.import.ImportKind.TheVariants.{Delayed}
use Rattle.implib_c_calls.specs.Imports.{Row, alias_row, encoded_rows, kind_number}
use Rattle.implib_c_calls.specs.Imports.{other_row, row_of, rows_in, rows_of}

-- a row of an import of foo.dll for AMD64
abbrev pub row_of_foo : ℕ → ℕ → List ℕ → ℕ → List ℕ → ℕ → Row
row_of_foo kind offset symbol by_name asked number = record {
  kind = kind;
  offset = offset;
  dll = codes "foo.dll";
  symbol = symbol;
  machine = 0x8664;
  by_name = by_name;
  asked = asked;
  number = number;
}

-- the row of bar's short import in the library that llvm-dlltool writes
abbrev pub bar_row : Row
bar_row = row_of_foo 1 834 (codes "bar") 1 (codes "bar") 0

-- its encoding
unfoldable pub bar_row_bytes : List ℕ
bar_row_bytes =
    hex "01 00 00 00 00 00 00 00"
    ++ (hex "42 03 00 00 00 00 00 00"
    ++ (hex "07 00 00 00 00 00 00 00 66 6f 6f 2e 64 6c 6c"
    ++ (hex "03 00 00 00 00 00 00 00 62 61 72"
    ++ (hex "64 86 00 00 00 00 00 00"
    ++ (hex "01 00 00 00 00 00 00 00"
    ++ (hex "03 00 00 00 00 00 00 00 62 61 72"
    ++ hex "00 00 00 00 00 00 00 00"))))))

-- the row of an alias
abbrev pub old_row : Row
old_row = alias_row 0x1234 (codes "old") (codes "new")

-- its encoding
unfoldable pub old_row_bytes : List ℕ
old_row_bytes =
    hex "05 00 00 00 00 00 00 00"
    ++ (hex "34 12 00 00 00 00 00 00"
    ++ (hex "00 00 00 00 00 00 00 00"
    ++ (hex "03 00 00 00 00 00 00 00 6f 6c 64"
    ++ (hex "00 00 00 00 00 00 00 00"
    ++ (hex "01 00 00 00 00 00 00 00"
    ++ (hex "03 00 00 00 00 00 00 00 6e 65 77"
    ++ hex "00 00 00 00 00 00 00 00"))))))

-- both, as they are written
unfoldable pub two_rows_bytes : List ℕ
two_rows_bytes = hex "02 00 00 00 00 00 00 00" ++ (bar_row_bytes ++ old_row_bytes)

-- the rows of a library, and of other members
pub record WorkedRows : Type 0 where
  pub ld : rows_of worked_ld ≡ Some (
      other_row 6 164
      ∷ other_row 6 478
      ∷ row_of_foo 4 850 (codes "qux") 0 [] 5
      ∷ row_of_foo 4 1350 (codes "bar") 1 (codes "bar") 3 ∷ []
      )
  pub an_alias : row_of (member (codes "a.o") 0x1234
      (AnAlias (record { weak = codes "old"; target = codes "new" }))) ≡ old_row
  pub delayed : row_of (member (codes "a.o") 8 DelayImport) ≡ other_row 7 8
  pub other : row_of (member (codes "a.o") 8 Other) ≡ other_row 8 8
  pub not_understood : row_of (member (codes "a.o") 8 NotUnderstood) ≡ other_row 9 8

-- an encoding, and what is read of bytes that are none
pub record WorkedRowBytes : Type 0 where
  pub two : encoded_rows (bar_row ∷ old_row ∷ []) ≡ two_rows_bytes
  pub row_missing : rows_in (hex "01 00 00 00 00 00 00 00") ≡ None

-- all of them
pub record WorkedImports : Type 0 where
  pub rows : WorkedRows
  pub kinds : map kind_number (Code ∷ Data ∷ Const ∷ CodeOrConst ∷ Delayed ∷ [])
      ≡ 1 ∷ 2 ∷ 3 ∷ 4 ∷ 10 ∷ []
  pub bytes : WorkedRowBytes
