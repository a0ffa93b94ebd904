-- Lists that are encoded item by item.
use Rattle.std.proofs.Common.{◌≡◌, ℕ, ◌+◌, ◌<◌, ◌≤◌, List, [], ◌∷◌, ◌++◌, length, map, flat_map, take, drop, get_or, sym, ap, ◌∙◌, append-nil, arith, length-append, take-append-drop}
use Rattle.std.proofs.lemmas.Grind.{flat_map-append}
use Rattle.std.proofs.lemmas.List.{map-append, take_all, take_more}

module _ {T V : Type 0} (f : V → List ℕ) (view : T → V) (items : List T) (index : ℕ) where
  -- one item more
  pub mapped_more : (item : T) → index < length items → item ≡ get_or items index item
      → flat_map f (map view (take index items)) ++ f (view item) ≡ flat_map f (map view (take (index + 1) items))
  mapped_more item within is = grind (arith, take index items, flat_map f, map view (take index items), map view, map-append view (take index items) (item ∷ []), take_more, append-nil, flat_map-append)

  -- all items
  pub mapped_all : length items ≤ index → flat_map f (map view (take index items)) ≡ flat_map f (map view items)
  mapped_all past = ap (λ t. flat_map f (map view t)) (take_all index items past)

  -- some items are no longer than all
  pub mapped_part : length (flat_map f (map view (take index items))) ≤ length (flat_map f (map view items))
  mapped_part =
      let both : flat_map f (map view (take index items)) ++ flat_map f (map view (drop index items)) ≡ flat_map f (map view items)
      = sym (flat_map-append f (map view (take index items)) (map view (drop index items)))
      ∙ ap (flat_map f) (sym (map-append view (take index items) (drop index items)) ∙ ap (map view) (take-append-drop index items)) in
      omega (arith, ap length both, length-append (flat_map f (map view (take index items))) (flat_map f (map view (drop index items))))

module _ {T V : Type 0} (f : V → List ℕ) (view : T → V) (items : List T) (index : ℕ) (item : T) (within : index < length items) (is : item ≡ get_or items index item) where
  -- the length of one item more
  pub mapped_length : length (flat_map f (map view (take (index + 1) items))) ≡ length (flat_map f (map view (take index items))) + length (f (view item))
  mapped_length = sym (ap length (mapped_more f view items index item within is)) ∙ length-append (flat_map f (map view (take index items))) (f (view item))

  -- the next item is within the length of all
  pub mapped_room : length (flat_map f (map view (take index items))) + length (f (view item)) ≤ length (flat_map f (map view items))
  mapped_room = omega (arith, mapped_length, mapped_part f view items (index + 1))
