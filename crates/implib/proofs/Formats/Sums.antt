-- Sums over the elements of a list.
use Rattle.std.proofs.Common.{◌≡◌, ℕ, ◌+◌, ◌<◌, ◌≤◌, List, [], ◌∷◌, ◌++◌, length, map, take, drop, get_or, refl, sym, ◌∙◌, ap, arith}
use Rattle.std.specs.List.{sum_by, flat_map}
use Rattle.std.proofs.lemmas.List.{drop_more, map-append, take_more, take-append-drop}
use Rattle.std.proofs.lemmas.List.Sums.{sum_by-append, sum_by-cons, sum_by_push}

module _ {X Y : Type 0} (f : Y → ℕ) (v : X → Y) (xs : List X) (i : ℕ) where
  -- one element more
  pub sum_more : (d : X) → i < length xs → sum_by f (map v (take (i + 1) xs)) ≡ sum_by f (map v (take i xs)) + f (v (get_or xs i d))
  sum_more d within = ap (λ t. sum_by f (map v t)) (take_more xs i d within) ∙ (ap (sum_by f) (map-append v (take i xs) (get_or xs i d ∷ [])) ∙ sum_by_push f (map v (take i xs)) (v (get_or xs i d)))

  -- those before and those from there on
  pub sum_parts : sum_by f (map v (take i xs)) + sum_by f (map v (drop i xs)) ≡ sum_by f (map v xs)
  sum_parts = sym (sum_by-append f (map v (take i xs)) (map v (drop i xs))) ∙ (ap (sum_by f) (sym (map-append v (take i xs) (drop i xs))) ∙ ap (λ t. sum_by f (map v t)) (take-append-drop i xs))

  -- one element fewer left
  pub sum_fewer : (d : X) → i < length xs → sum_by f (map v (drop i xs)) ≡ f (v (get_or xs i d)) + sum_by f (map v (drop (i + 1) xs))
  sum_fewer d within = ap (λ t. sum_by f (map v t)) (drop_more xs i d within) ∙ sum_by-cons f (v (get_or xs i d)) (map v (drop (i + 1) xs))

  -- the next element is within the sum
  pub sum_room : (d : X) → i < length xs → sum_by f (map v (take i xs)) + f (v (get_or xs i d)) ≤ sum_by f (map v xs)
  sum_room d within = omega (arith, sum_fewer d within, sum_parts)

-- the chunks that views of the elements make
pub flat_map-map : {X Y : Type 0} {A : Type 0} (f : Y → List A) (v : X → Y) (xs : List X) → flat_map f (map v xs) ≡ flat_map (λ x. f (v x)) xs
flat_map-map f v [] = refl
flat_map-map f v (x ∷ xs) = ap (λ t. f (v x) ++ t) (flat_map-map f v xs)
