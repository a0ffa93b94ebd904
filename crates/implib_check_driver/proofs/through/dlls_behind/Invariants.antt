use Rattle.std.proofs.Common.{ℕ, All, List, map}
use Rattle.implib_compare.specs.DllCheck.Folders.{AreKnown, IsRight, folder_view, loaded_view}
use Rattle.implib_check_driver.proofs.through.dlls_behind.Given as goal

-- what was loaded is right
abbrev pub invariant-loop-left : goal.invariant-loop-left
invariant-loop-left g l =
    (file : List ℕ → List ℕ) → AreKnown (g.S.Shelf.seen l.shelf) file
    → All (IsRight file (map folder_view l.folders)) (map loaded_view l.loaded.items)

abbrev pub decreases-loop-left : goal.decreases-loop-left
decreases-loop-left g l = l.left
