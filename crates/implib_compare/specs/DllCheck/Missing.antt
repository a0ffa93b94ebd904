-- What a DLL exports and no import asks for.
use Rattle.std.specs.Prelude.{ℕ, ◌+◌, ◌==◌, Bool, false, ◌&&◌, not, List, [], ◌∷◌, ◌++◌, Option}
use Rattle.std.specs.Prelude.{None, Some, if◌then◌else◌}
use Rattle.std.specs.List.{list_any}
use Rattle.std.specs.Option.{is_some}
use Rattle.implib.specs.Import.{Ask}
use Rattle.implib_dll.specs.Exports.{Exports, Target}
use Rattle.implib_dll.specs.Lookup.{target_at}
use Rattle.implib_libraries.specs.FromDll.Laws.{index_found}

-- whether an index is found
abbrev pub is_index : ℕ → Option ℕ → Bool
is_index index None = false
is_index index (Some found) = found == index

-- whether a loader comes to an index for one of these asks
abbrev pub is_reached : Exports → List Ask → ℕ → Bool
is_reached e asks index = list_any (λ ask. is_index index (index_found e ask)) asks

-- whether there is a target at an index, and a loader comes to it for none of these asks
abbrev pub is_unmarked : Exports → Bool → ℕ → Bool
is_unmarked e marked index = is_some (target_at e.targets index) && not marked

abbrev pub is_missing : Exports → List Ask → ℕ → Bool
is_missing e asks index = is_unmarked e (is_reached e asks index) index

-- those of as many indexes as there are targets, from an index on
unfoldable pub missing_from : Exports → List Ask → List Target → ℕ → List ℕ
missing_from e asks [] index = []
missing_from e asks (target ∷ targets) index =
    (if is_missing e asks index then index ∷ [] else []) ++ missing_from e asks targets (index + 1)

-- The indexes of the export address table that have a target and that no ask comes to, in order.
abbrev pub missing : Exports → List Ask → List ℕ
missing e asks = missing_from e asks e.targets 0
