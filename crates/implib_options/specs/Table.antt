-- The options of names and letters, by the table of the program (this project's choice, after GNU
-- dlltool, llvm-dlltool and Microsoft's LIB).
use Rattle.std.specs.Prelude.{ℕ, Bool, false, not, ◌&&◌, ◌==◌, List, [], ◌∷◌, ◌++◌, length, map}
use Rattle.std.specs.Prelude.{Option, None, Some, if◌then◌else◌, nat_lt}
use Rattle.std.specs.List.{find, flat_map}
use Rattle.std.specs.Option.{option_map}
use Rattle.std.specs.Str.{bytes_eq}
use denote.Enum.Bare.{sameb}
use Rattle.implib_options.specs.contracts.table.Words.{the_type}
use Rattle.implib_options.specs.declared.table.Meaning.{Meaning}
use Rattle.implib_options.specs.declared.table.Takes.{Takes}
use Rattle.implib_options.specs.declared.table.TheConstants.{LIB_MACHINES, OPTIONS}
use Rattle.implib_options.specs.declared.table.Words.{Words}

-- what an option takes and means
abbrev pub Kind : Type 0
Kind = Takes × Meaning

-- a row of the table: whose it is; its name and letter; what it takes and means
abbrev pub Row : Type 0
Row = Words × List ℕ × Option ℕ × Kind

-- whether the row is of these words
abbrev pub is_of : Words → Row → Bool
is_of of row = sameb the_type row.0 of

abbrev pub is_letter : ℕ → Option ℕ → Bool
is_letter letter None = false
is_letter letter (Some own) = own == letter

-- what the first row of a name takes and means
abbrev pub named_in : List Row → Words → List ℕ → Option Kind
named_in rows of name =
    option_map (λ row. row.3) (find (λ row. is_of of row && bytes_eq row.1 name) rows)

-- what the first row of a letter takes and means
abbrev pub lettered_in : List Row → Words → ℕ → Option Kind
lettered_in rows of letter =
    option_map (λ row. row.3) (find (λ row. is_of of row && is_letter letter row.2) rows)

-- the rows of the program
abbrev pub options : List Row
options = map (λ row. (row.0, row.1.now, row.2, (row.3, row.4))) OPTIONS

-- what a name and a letter, which is ASCII, stand for
unfoldable pub named : Words → List ℕ → Option Kind
named of name = named_in options of name

unfoldable pub lettered : Words → ℕ → Option Kind
lettered of letter = if nat_lt letter 128 then lettered_in options of letter else None

-- the name for `-m` of the first machine of a name, and of a machine of LIB's
abbrev pub machine_in : List (List ℕ × List ℕ) → List ℕ → Option (List ℕ)
machine_in rows name = option_map (λ row. row.1) (find (λ row. bytes_eq row.0 name) rows)

unfoldable pub lib_machine : List ℕ → Option (List ℕ)
lib_machine name = machine_in (map (λ row. (row.0.now, row.1.now)) LIB_MACHINES) name

-- the lines of `--help` of rows in some words, in order
abbrev pub help_in : List (Words × List ℕ) → Words → List ℕ
help_in rows of =
    flat_map (λ row.
    if sameb the_type row.0 of && not (length row.1 == 0) then row.1 ++ 10 ∷ [] else []) rows

abbrev pub help_rows : List (Words × List ℕ)
help_rows = map (λ row. (row.0, row.5.now)) OPTIONS

unfoldable pub help_lines : Words → List ℕ
help_lines of = help_in help_rows of
