use Rattle.std.proofs.Common.{◌≡◌, ℕ, List, length, map, take}
use Rattle.std.specs.String.{string_bytes}
use Rattle.implib_compare.specs.DllCheck.Folders.{AreKnown}
use Rattle.implib_check_driver.proofs.joined.all_bytes.Given as goal

-- the bytes so far are those of the first paths
abbrev pub invariant-loop-path : goal.invariant-loop-path
invariant-loop-path g l =
    (length l.files.items ≡ l.path-index)
    × ((file : List ℕ → List ℕ) → AreKnown (g.S.Shelf.seen l.shelf) file
    → map (λ bytes. bytes.items) l.files.items ≡ map file (map string_bytes (take l.path-index l.paths)))
