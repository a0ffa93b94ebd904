-- The offsets of strings, found one after another.
use Rattle.std.proofs.Common.{arith, ◌≡◌, ℕ, ◌+◌, ◌<◌, ◌≤◌, List, [], ◌∷◌, ◌++◌, length, map, drop, get_or, sym, ◌∙◌, ap, append_assoc}
use Rattle.std.specs.Borrow.{Bor}
use Rattle.std.proofs.lemmas.List.{append-nil, drop_all, drop_more}
use Rattle.implib.specs.Formats.Layout.{offsets_from, string_size}

module _ (found : List ℕ) (offset : ℕ) (strings : List (Bor (List ℕ))) (i : ℕ) (whole : List ℕ)
    (so_far : found ++ offsets_from offset (map (λ text. text.now) (drop i strings)) ≡ whole) where
  -- one offset more
  pub offsets_more : (d : Bor (List ℕ)) → i < length strings → (found ++ offset ∷ []) ++ offsets_from (offset + string_size (get_or strings i d).now) (map (λ text. text.now) (drop (i + 1) strings)) ≡ whole
  unfolding offsets_from
  offsets_more d within = grind (arith, append_assoc, drop_more)

  -- all offsets
  pub offsets_all : length strings ≤ i → found ≡ whole
  unfolding offsets_from
  offsets_all past = sym (append-nil found) ∙ (sym (ap (λ t. found ++ offsets_from offset (map (λ text. text.now) t)) (drop_all i strings past)) ∙ so_far)
