-- The first refusal of a list.
use Rattle.std.proofs.Common.{◌≡◌, ℕ, ◌+◌, ◌<◌, ◌≤◌, true, false, List, [], ◌∷◌, Option, None, drop, get_or, is_some, length, sym, ap, ◌∙◌, if◌then◌else◌}
use Rattle.std.proofs.lemmas.List.{drop_all, drop_more}

-- the one that is found first
module _ {X F : Type 0} (test : X → Option F) (first : List X → Option F)
    (none : first [] ≡ None)
    (more : (x : X) (xs : List X) → first (x ∷ xs) ≡ (if is_some (test x) then test x else first xs)) where
  at_next : (xs : List X) (i : ℕ) (d : X) → i < length xs → first (drop i xs) ≡ (if is_some (test (get_or xs i d)) then test (get_or xs i d) else first (drop (i + 1) xs))
  at_next xs i d within = ap first (drop_more xs i d within) ∙ more (get_or xs i d) (drop (i + 1) xs)

  -- the next one is refused
  pub first_here : (xs : List X) (i : ℕ) (d : X) → i < length xs → first xs ≡ first (drop i xs) → is_some (test (get_or xs i d)) ≡ true → test (get_or xs i d) ≡ first xs
  first_here xs i d within so_far here = sym (so_far ∙ at_next xs i d within ∙ ap (λ b. if b then test (get_or xs i d) else first (drop (i + 1) xs)) here)

  -- the next one is not refused
  pub first_later : (xs : List X) (i : ℕ) (d : X) → i < length xs → first xs ≡ first (drop i xs) → is_some (test (get_or xs i d)) ≡ false → first xs ≡ first (drop (i + 1) xs)
  first_later xs i d within so_far here = so_far ∙ at_next xs i d within ∙ ap (λ b. if b then test (get_or xs i d) else first (drop (i + 1) xs)) here

  -- none is refused
  pub first_none : (xs : List X) (i : ℕ) → length xs ≤ i → first xs ≡ first (drop i xs) → None ≡ first xs
  first_none xs i past so_far = sym (so_far ∙ ap first (drop_all i xs past) ∙ none)
