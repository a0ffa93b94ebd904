-- What is put into a pass chunk by chunk.
use Rattle.std.proofs.Common.{◌≡◌, ℕ, ◌+◌, ◌<◌, ◌≤◌, List, [], ◌∷◌, ◌++◌, length, take, get_or, sym, ◌∙◌, ap, append_assoc, arith, length-append}
use Rattle.std.specs.List.{flat_map}
use Rattle.std.proofs.lemmas.List.{append-nil, take_all, take_more}
use Rattle.std.proofs.lemmas.List.Concat.{flat_map-append}
use Rattle.std.proofs.lemmas.List.Folds.{length-flat_map-take}
use Rattle.implib.specs.Formats.Pass.{Written, Puts}

-- nothing is put
pub puts_nothing : (w : Written) → Puts w w []
puts_nothing w = record { put = sym (append-nil w.put); left = omega arith }

-- one chunk, then another
pub puts_both : {a b c : Written} → {x y : List ℕ} → Puts a b x → Puts b c y → Puts a c (x ++ y)
puts_both {a} {b} {c} {x} {y} first second = grind (arith, append_assoc, length-append)

-- the same bytes under another name
pub puts_same : {a b : Written} → {x : List ℕ} → (y : List ℕ) → x ≡ y → Puts a b x → Puts a b y
puts_same {a} {b} y e puts = record { put = puts.put ∙ ap (λ t. a.put ++ t) e; left = ap (λ t. b.left + length t) (sym e) ∙ puts.left }

-- the chunks of a list, put in order

module _ {X : Type 0} (f : X → List ℕ) (xs : List X) (i : ℕ) where
  -- the next chunk fits where they all do
  pub puts_room : {a b : Written} → (d : X) → i < length xs → length (flat_map f xs) ≤ a.left → Puts a b (flat_map f (take i xs)) → length (f (get_or xs i d)) ≤ b.left
  puts_room d within room puts = omega (arith, length-flat_map-take f xs i d within, puts.left, room)

  -- one chunk more
  pub puts_more : {a b c : Written} → (d : X) → i < length xs → Puts a b (flat_map f (take i xs)) → Puts b c (f (get_or xs i d)) → Puts a c (flat_map f (take (i + 1) xs))
  puts_more {a} {b} {c} d within before chunk =
      puts_same (flat_map f (take (i + 1) xs))
      (sym (ap (flat_map f) (take_more xs i d within) ∙ (flat_map-append f (take i xs) (get_or xs i d ∷ []) ∙ ap (λ t. flat_map f (take i xs) ++ t) (append-nil (f (get_or xs i d))))))
      (puts_both before chunk)

  -- all chunks
  pub puts_all : {a b : Written} → length xs ≤ i → Puts a b (flat_map f (take i xs)) → Puts a b (flat_map f xs)
  puts_all past puts = puts_same (flat_map f xs) (ap (flat_map f) (take_all i xs past)) puts
