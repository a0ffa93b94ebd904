use Rattle.std.proofs.Common.{◌≡◌, ℕ, List, map, take}
use Rattle.implib_compare.specs.DllCheck.Folders.{AreKnown, folder_view, listings}
use Rattle.implib_driver.proofs.search.folders_at.Given as goal

-- the folders so far are those of the first paths
abbrev pub invariant-loop-path : goal.invariant-loop-path
invariant-loop-path g l =
    (g.D.Disk.view l.disk ≡ g.D.Disk.view l.fn.disk)
    × ((names : List ℕ → List (List ℕ)) → AreKnown (g.D.Disk.view l.fn.disk).listed names
    → map folder_view l.folders.items ≡ listings names (map (λ path. path.now) (take l.path-index l.paths)))
