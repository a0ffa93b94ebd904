use Rattle.std.proofs.Common.{◌≡◌, ℕ, List, map, take}
use Rattle.std.specs.String.{string_bytes}
use Rattle.implib_compare.specs.DllCheck.Folders.{AreKnown, folder_view, listings}
use Rattle.implib_check_driver.proofs.starting.folders_of.Given as goal

-- the folders so far are those of the first paths
abbrev pub invariant-loop-path : goal.invariant-loop-path
invariant-loop-path g l =
    (names : List ℕ → List (List ℕ)) → AreKnown (g.S.Shelf.listed l.shelf) names
    → map folder_view l.folders.items ≡ listings names (map string_bytes (take l.path-index l.paths))
