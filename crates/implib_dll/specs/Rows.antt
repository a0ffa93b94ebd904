-- What an image exports, ordinal by ordinal.
use Rattle.std.specs.Prelude.{ℕ, ◌+◌, ◌==◌, List, [], ◌∷◌, filter, length, map, nat_lt, Option}
use Rattle.std.specs.Prelude.{None, Some, if◌then◌else◌}
use Rattle.implib_dll.specs.declared.rows.Oddity.{Oddity}
use Rattle.implib_dll.specs.declared.rows.Oddity.TheVariants.{PastTable, AtEmpty}
use Rattle.implib_dll.specs.Exports.{Exports, NameEntry, Target}
use Rattle.implib_dll.specs.Lookup.{ordinal_of, target_at}

-- an ordinal, where it leads, and its names in the order of the name table: none, one, or several
pub record Row : Type 0 where
  pub ordinal : ℕ
  pub target : Target
  pub names : List (List ℕ)

-- the names that lead to an index of the export address table
abbrev pub names_at : List NameEntry → ℕ → List (List ℕ)
names_at names index = map (λ name. name.text) (filter (λ name. name.index == index) names)

-- a row of each target, from an index on
abbrev pub rows_from : ℕ → List NameEntry → List Target → ℕ → List Row
rows_from base names [] index = []
rows_from base names (target ∷ targets) index =
    record { ordinal = ordinal_of base index; target = target; names = names_at names index }
    ∷ rows_from base names targets (index + 1)

-- The rows of an image, one for each entry of its export address table, empty ones too.
abbrev pub rows_of : Exports → List Row
rows_of e = rows_from e.base e.names e.targets 0

-- why a name of the table leads to no target: its index is past the export address table, or the
-- target there is empty
abbrev pub oddity_with : Option Target → Option Oddity
oddity_with None = Some AtEmpty
oddity_with (Some target) = None

abbrev pub oddity_of : List Target → ℕ → Option Oddity
oddity_of targets index =
    if nat_lt index (length targets) then oddity_with (target_at targets index) else Some PastTable
