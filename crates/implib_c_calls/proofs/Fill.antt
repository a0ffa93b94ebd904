-- A buffer that is filled chunk by chunk.
use Rattle.std.proofs.Common.{◌≡◌, ℕ, ◌+◌, ◌<◌, ◌≤◌, List, ◌∷◌, ◌++◌, length, map, flat_map, take, drop, set, get_or, refl, sym, ap, ◌∙◌, append_assoc, arith, length-append}
use Rattle.std.proofs.Math.Seq.{set-append_seam}
use Rattle.std.proofs.lemmas.Bool.{lt-ltb}
use Rattle.std.proofs.lemmas.List.{drop-drop, drop_at, drop_more, length-take-le, take_at}
use Rattle.implib_c_calls.specs.Fill.{Fills}
use Rattle.implib_c_calls.specs.Status.{with_text}
use Rattle.implib_c_calls.proofs.Lists.{mapped_all, mapped_more, mapped_room}

-- the same bytes under another name
pub fills_as : {old new : List ℕ} → {a b : ℕ} → {x : List ℕ} → (y : List ℕ) → x ≡ y → Fills old new a b x → Fills old new a b y
fills_as {old} {new} {a} {b} y e fills = grind (arith, length, take, drop)

-- what is before the end of a chunk, and what is after it
module _ {old mid : List ℕ} {a b : ℕ} {x : List ℕ} (room : b ≤ length old) (fills : Fills old mid a b x) where
  whole : mid ≡ (take a old ++ x) ++ drop b old
  whole = fills.new_is ∙ sym (append_assoc (take a old) x (drop b old))

  begins : length (take a old ++ x) ≡ b
  begins = omega (arith, length-append (take a old) x, length-take-le a old (omega (arith, fills.end_is, room)), fills.end_is)

  before : take b mid ≡ take a old ++ x
  before = ap (take b) whole ∙ take_at (take a old ++ x) (drop b old) b begins

  behind : drop b mid ≡ drop b old
  behind = ap (drop b) whole ∙ drop_at (take a old ++ x) (drop b old) b begins

-- one chunk, then another
pub fills_both : {old mid new : List ℕ} → {a b c : ℕ} → {x y : List ℕ} → b ≤ length old → Fills old mid a b x → Fills mid new b c y → Fills old new a c (x ++ y)
fills_both {old} {mid} {new} {a} {b} {c} {x} {y} room first second =
    let far : drop c mid ≡ drop c old
    = ap (λ n. drop n mid) second.end_is
    ∙ (sym (drop-drop (length y) b mid)
    ∙ (ap (drop (length y)) (behind room first)
    ∙ (drop-drop (length y) b old ∙ ap (λ n. drop n old) (sym second.end_is)))) in
    record {
      end_is = omega (arith, first.end_is, second.end_is, length-append x y);
      new_is = second.new_is
          ∙ (ap (λ t. t ++ (y ++ drop c mid)) (before room first)
          ∙ (ap (λ t. (take a old ++ x) ++ (y ++ t)) far
          ∙ (append_assoc (take a old) x (y ++ drop c old)
          ∙ ap (λ t. take a old ++ t) (sym (append_assoc x y (drop c old))))));
    }

-- the items of a list, after a first chunk

module _ {T V : Type 0} (f : V → List ℕ) (view : T → V) (items : List T) (index : ℕ) (front : List ℕ) {old mid : List ℕ} {a b : ℕ} (fills : Fills old mid a b (front ++ flat_map f (map view (take index items)))) where
  -- the next item fits where they all do
  pub fills_room : (item : T) → index < length items → item ≡ get_or items index item
      → a + (length front + length (flat_map f (map view items))) ≤ length old → b + length (f (view item)) ≤ length old
  fills_room item within is room = grind (arith, mapped_room, length-append, flat_map, map, take)

  -- one item more
  pub fills_more : {new : List ℕ} → {c : ℕ} → (item : T) → index < length items → item ≡ get_or items index item → b ≤ length old
      → Fills mid new b c (f (view item)) → Fills old new a c (front ++ flat_map f (map view (take (index + 1) items)))
  fills_more item within is room chunk = grind (arith, map view (take index items), take (index + 1) items, take index items, mapped_more f view items index item within is, fills_both room fills chunk, fills_as, flat_map, append_assoc)

  -- all items
  pub fills_all : length items ≤ index → Fills old mid a b (front ++ flat_map f (map view items))
  fills_all past = fills_as (front ++ flat_map f (map view items)) (ap (λ t. front ++ t) (mapped_all f view items index past)) fills

-- a text and a NUL at the beginning
pub text_ended : (old text written : List ℕ) → written ≡ text → length text < length old
    → set (written ++ drop (length text) old) (length text) 0 ≡ with_text old text
text_ended old text written same within =
    let whole : with_text old text ≡ text ++ 0 ∷ drop (length text + 1) old = rw (lt-ltb (length text) (length old) within) refl in
    ap (λ t. set (t ++ drop (length text) old) (length text) 0) same
    ∙ (ap (λ t. set (text ++ t) (length text) 0) (drop_more old (length text) 0 within)
    ∙ (set-append_seam text (get_or old (length text) 0) (drop (length text + 1) old) 0
    ∙ sym whole))
