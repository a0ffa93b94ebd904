-- Items that are appended one by one.
use Rattle.std.proofs.Common.{arith, ◌≡◌, ℕ, ◌+◌, ◌<◌, List, ◌++◌, length, map, flat_map, take, get_or, append_assoc}
use Rattle.implib_archive.specs.Pushed.{Pushes}
use Rattle.implib_archive.proofs.Appended.{pushes_as, pushes_then}
use Rattle.implib_c_calls.proofs.Lists.{mapped_more}

module _ {T V : Type 0} (f : V → List ℕ) (view : T → V) (items : List T) (index : ℕ) (front : List ℕ) {old mid : List ℕ} (pushes : Pushes old mid (front ++ flat_map f (map view (take index items)))) where
  -- one item more
  pub pushes_item : {new : List ℕ} → (item : T) → index < length items → item ≡ get_or items index item → Pushes mid new (f (view item))
      → Pushes old new (front ++ flat_map f (map view (take (index + 1) items)))
  pushes_item item within is more = grind (arith, pushes_as, append_assoc, flat_map, map, take, mapped_more, pushes_then)
