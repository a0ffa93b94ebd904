-- Bytes that are appended, one after another.
use Rattle.std.proofs.Common.{rules, ◌≡◌, ℕ, ◌+◌, ◌<◌, ◌≤◌, List, [], ◌∷◌, ◌++◌, Result, Ok, Err, OnOk, is_ok, if◌then◌else◌, take, drop, replicate, flat_map, get_or, length, suc, zero, refl, sym, ap, ◌∙◌, append_assoc, append-nil, arith}
use Rattle.std.specs.Borrow.{Bor}
use Rattle.std.specs.List.{All}
use Rattle.std.proofs.lemmas.Grind.{flat_map-append}
use Rattle.std.proofs.lemmas.List.{drop-map, take-map, take_more}
use Rattle.std.proofs.lemmas.List.Elements.{All-drop, All-take}
use Rattle.std.proofs.lemmas.List.Folds.{flat_map-map}
use Rattle.implib_archive.specs.Pushed.{Pushes, shown}

-- bytes after bytes
pub pushes_then : {a b c x y : List ℕ} → Pushes a b x → Pushes b c y → Pushes a c (x ++ y)
pushes_then {a} {b} {c} {x} {y} p q = record { whole = q.whole ∙ ap (λ t. t ++ y) p.whole ∙ append_assoc a x y }

-- bytes in front of four others
pub behind_four : (a b c d e : List ℕ) → a ++ (b ++ c ++ d ++ e) ≡ a ++ b ++ c ++ d ++ e
behind_four a b c d e = grind (arith, append_assoc)

-- the same bytes
pub pushes_as : {a b x y : List ℕ} → x ≡ y → Pushes a b x → Pushes a b y
pushes_as {a} e p = record { whole = p.whole ∙ ap (λ t. a ++ t) e }

-- no bytes
pub pushes_nothing : (a : List ℕ) → Pushes a a []
pushes_nothing a = record { whole = sym (append-nil a) }

-- what a call appends where it succeeds, after other bytes
pub on_then : {T E : Type 0} {a b x : List ℕ} (r : Result T E) (c y : List ℕ) → Pushes a b x → OnOk r (Pushes b c y) → OnOk r (Pushes a c (x ++ y))
on_then (Ok u) c y p q = pushes_then p q
on_then (Err e) c y p q = q

-- the same bytes
pub on_as : {T E : Type 0} {x y : List ℕ} (r : Result T E) (a b : List ℕ) → x ≡ y → OnOk r (Pushes a b x) → OnOk r (Pushes a b y)
on_as (Ok u) a b e q = pushes_as e q
on_as (Err u) a b e q = q

-- what std says of a slice that is appended
pub on_slice : {T E : Type 0} (r : Result T E) (a c y : List ℕ) → c ≡ (if is_ok r then a ++ y else a) → OnOk r (Pushes a c y)
on_slice (Ok u) a c y e = record { whole = e }
on_slice (Err u) a c y e = tt

-- the first of equal bytes
pub take_replicate : (n m b : ℕ) → n ≤ m → take n (replicate m b) ≡ replicate n b
take_replicate zero m b h = refl
take_replicate (suc n) zero b h = absurd (omega arith)
take_replicate (suc n) (suc m) b h = let e : n ≤ m = omega arith in ap (λ t. b ∷ t) (take_replicate n m b e)

-- the bytes of one element more
pub pushes_more : {X : Type 0} (f : X → List ℕ) (xs : List X) (i : ℕ) (d : X) {a b c : List ℕ} → i < length xs → Pushes a b (flat_map f (take i xs)) → Pushes b c (f (get_or xs i d)) → Pushes a c (flat_map f (take (i + 1) xs))
pushes_more f xs i d within p q = grind (arith, append-nil (f (get_or xs i d)), pushes_as, take_more xs i d within, flat_map-append f (take i xs) (get_or xs i d ∷ []), pushes_then p q)

-- the bytes of one entry more
pub pushes_entry : (f : List ℕ × ℕ → List ℕ) (xs : List (Bor (List ℕ) × ℕ)) (i : ℕ) (d : Bor (List ℕ) × ℕ) {a b c : List ℕ} → i < length xs → Pushes a b (flat_map f (shown (take i xs))) → Pushes b c (f ((get_or xs i d).0.now, (get_or xs i d).1)) → Pushes a c (flat_map f (shown (take (i + 1) xs)))
pushes_entry f xs i d within p q = search (rules, pushes_as, flat_map-map, pushes_more)

-- a fact of the number of each entry
pub number_at : (P : ℕ → Type 0) (xs : List (Bor (List ℕ) × ℕ)) (i : ℕ) (d : Bor (List ℕ) × ℕ) → i < length xs → All (λ e. P e.1) (shown xs) → P (get_or xs i d).1
number_at P [] i d within all = absurd (omega arith)
number_at P (x ∷ xs) zero d within all = all 0 (d.0.now, d.1) (omega arith)
number_at P (x ∷ xs) (suc i) d within all = let w : i < length xs = omega arith in number_at P xs i d w (λ k e h. all (suc k) e (omega (arith, h)))

-- a fact of all entries, of some of them
pub all_between : (P : List ℕ × ℕ → Type 0) (n m : ℕ) (xs : List (Bor (List ℕ) × ℕ)) → All P (shown xs) → All P (shown (take n (drop m xs)))
all_between P n m xs all = grind (arith, drop-map, take-map, All-take P n (drop m (shown xs)) (All-drop P m (shown xs) all), All-drop P m (shown xs) all)
