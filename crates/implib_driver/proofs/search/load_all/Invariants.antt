use Rattle.std.proofs.Common.{◌≡◌, ℕ, All, List, map}
use Rattle.implib_compare.specs.DllCheck.Folders.{AreKnown, IsRight, folder_view, loaded_view}
use Rattle.implib_driver.proofs.search.load_all.Given as goal

-- what was loaded so far is right, where what was loaded before is
abbrev pub invariant-loop-name : goal.invariant-loop-name
invariant-loop-name g l =
    (g.D.Disk.view l.disk ≡ g.D.Disk.view l.fn.disk)
    × ((file : List ℕ → List ℕ) → AreKnown (g.D.Disk.view l.fn.disk).seen file
    → All (IsRight file (map folder_view l.folders)) (map loaded_view l.fn.loaded.items)
    → All (IsRight file (map folder_view l.folders)) (map loaded_view l.loaded.items))
