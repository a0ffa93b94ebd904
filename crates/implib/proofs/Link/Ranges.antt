-- Where the bytes of ranges are in an image.
use Rattle.std.proofs.Common.{◌≡◌, ℕ, ◌+◌, ◌-◌, ◌<◌, ◌≤◌, ◌^◌, true, List, [], ◌∷◌, ◌++◌, length, Some, refl, ap, sym, ◌∙◌, arith, subst, inl, inr, ◌⊎◌}
use Rattle.std.specs.Prelude.{Bool, ◌&&◌, nat_le, nat_lt, slice_index}
use Rattle.std.specs.List.{AllByRecursion, flat_map, list_all}
use Rattle.std.proofs.lemmas.Bool.{and_from, and_parts, cases_Bool, le-leb, leb-true, lt-ltb, ltb-true}
use Rattle.std.proofs.lemmas.List.{append_assoc, get_or_at, length-append}
use Rattle.implib.specs.Link.Image.{AllApart, AreApart, Contribution, Range, byte_at, filled, is_in, range_end, range_of}
use Rattle.implib.specs.Link.Load.{BytesAt}

-- a list holds this
unfoldable pub Among : {X : Type 0} → X → List X → Type 0
Among x [] = ⊥
Among x (y ∷ ys) = (x ≡ y) ⊎ Among x ys

pub among_first : {X : Type 0} (x : X) (xs : List X) → Among x (x ∷ xs)
unfolding Among
among_first x xs = inl refl

pub among_later : {X : Type 0} (x y : X) (xs : List X) → Among x xs → Among x (y ∷ xs)
unfolding Among
among_later x y xs m = inr m

pub among_front : {X : Type 0} (x : X) (xs ys : List X) → Among x xs → Among x (xs ++ ys)
unfolding Among
among_front x [] ys m = absurd m
among_front x (y ∷ xs) ys (inl e) = inl e
among_front x (y ∷ xs) ys (inr m) = inr (among_front x xs ys m)

pub among_back : {X : Type 0} (x : X) (xs ys : List X) → Among x ys → Among x (xs ++ ys)
unfolding Among
among_back x [] ys m = m
among_back x (y ∷ xs) ys m = inr (among_back x xs ys m)

pub among_flat : {X Y : Type 0} (f : X → List Y) (x : X) (xs : List X) (y : Y) → Among x xs → Among y (f x) → Among y (flat_map f xs)
unfolding Among
among_flat f x [] y m held = absurd m
among_flat f x (z ∷ xs) y (inl e) held = among_front y (f z) (flat_map f xs) (subst (λ w. Among y (f w)) e held)
among_flat f x (z ∷ xs) y (inr m) held = among_back y (f z) (flat_map f xs) (among_flat f x xs y m held)

pub all_among : {X : Type 0} (P : X → Type 0) (x : X) (xs : List X) → Among x xs → AllByRecursion P xs → P x
unfolding Among
all_among P x [] m all = absurd m
all_among P x (y ∷ xs) (inl e) all = subst P (sym e) all.0
all_among P x (y ∷ xs) (inr m) all = all_among P x xs m all.1

-- the byte at an address of a range
pub byte_of : (r : Range) (ranges : List Range) (a : ℕ) → Among r ranges → AllApart ranges → is_in a r ≡ true →
    byte_at ranges a ≡ Some (slice_index r.bytes (a - r.start))
unfolding Among
byte_of r [] a m apart within = absurd m
byte_of r (x ∷ xs) a (inl e) apart within = subst (λ (y : Range). byte_at (y ∷ xs) a ≡ Some (slice_index r.bytes (a - r.start))) e (rw within refl)
byte_of r (x ∷ xs) a (inr m) apart within =
    elim (cases_Bool (is_in a x)) [
      | inl is ↦ absurd (all_among (AreApart x) r xs m apart.0 a is within)
      | inr is ↦ rw is (byte_of r xs a m apart.1 within)
    ]

pub is_in_from : (a : ℕ) (r : Range) → r.start ≤ a → a < range_end r → is_in a r ≡ true
is_in_from a r low high = and_from _ _ (le-leb r.start a low) (lt-ltb a (range_end r) high)

-- whether each range ends before the later ones start, and below a limit
abbrev pub rise_below : ℕ → List Range → Bool
rise_below limit [] = true
rise_below limit (r ∷ rs) = nat_lt (range_end r) limit && (list_all (λ later. nat_le (range_end r) later.start) rs && rise_below limit rs)

apart_from_first : (r : Range) (rs : List Range) → list_all (λ later. nat_le (range_end r) later.start) rs ≡ true → AllByRecursion (AreApart r) rs
apart_from_first r [] h = tt
apart_from_first r (later ∷ rs) h =
    let parts = and_parts (nat_le (range_end r) later.start) (list_all (λ later. nat_le (range_end r) later.start) rs) h in (
      λ a in_first in_later.
          let first = ltb-true a (range_end r) (and_parts (nat_le r.start a) (nat_lt a (range_end r)) in_first).1 in
          let second = leb-true later.start a (and_parts (nat_le later.start a) (nat_lt a (range_end later)) in_later).0 in
          let between = leb-true (range_end r) later.start parts.0 in
          omega arith,
      apart_from_first r rs parts.1,
    )

pub apart_as_they_rise : (limit : ℕ) (rs : List Range) → rise_below limit rs ≡ true → AllApart rs
apart_as_they_rise limit [] h = tt
apart_as_they_rise limit (r ∷ rs) h =
    let parts = and_parts (nat_lt (range_end r) limit) (list_all (λ later. nat_le (range_end r) later.start) rs && rise_below limit rs) h in
    let later = and_parts (list_all (λ later. nat_le (range_end r) later.start) rs) (rise_below limit rs) parts.1 in
    (apart_from_first r rs later.0, apart_as_they_rise limit rs later.1)

pub ends_below : (limit : ℕ) (rs : List Range) → rise_below limit rs ≡ true → AllByRecursion (λ r. range_end r < limit) rs
ends_below limit [] h = tt
ends_below limit (r ∷ rs) h =
    let parts = and_parts (nat_lt (range_end r) limit) (list_all (λ later. nat_le (range_end r) later.start) rs && rise_below limit rs) h in
    let later = and_parts (list_all (λ later. nat_le (range_end r) later.start) rs) (rise_below limit rs) parts.1 in
    (ltb-true (range_end r) limit parts.0, ends_below limit rs later.1)

-- what a range holds from a position on is there
rest_located : (r : Range) (ranges : List Range) → Among r ranges → AllApart ranges → (bytes front : List ℕ) (a : ℕ) →
    r.bytes ≡ front ++ bytes → a ≡ r.start + length front → BytesAt ranges a bytes
unfolding BytesAt
rest_located r ranges m apart [] front a is at = tt
rest_located r ranges m apart (b ∷ bytes) front a is at =
    let long : length r.bytes ≡ length front + (length bytes + 1) = ap length is ∙ length-append front (b ∷ bytes) ∙ omega arith in
    let within : is_in a r ≡ true = is_in_from a r (omega arith) (omega arith) in
    let position : a - r.start ≡ length front = omega arith in
    let first : slice_index r.bytes (a - r.start) ≡ b = rw (position, is) (get_or_at front b bytes 0 (length front) refl) in (
      byte_of r ranges a m apart within ∙ ap Some first,
      rest_located r ranges m apart bytes (front ++ b ∷ []) (a + 1) (is ∙ sym (append_assoc front (b ∷ []) bytes)) (rw (length-append front (b ∷ [])) (omega arith)),
    )

pub range_located : (r : Range) (ranges : List Range) → Among r ranges → AllApart ranges → BytesAt ranges r.start r.bytes
range_located r ranges m apart = rest_located r ranges m apart r.bytes [] r.start refl (omega arith)

-- the contributions of a range are located
pub filled_located : (base : ℕ) (ps : List Contribution) (ranges : List Range) → ((r : Range) → Among r (range_of base ps) → Among r ranges) → AllApart ranges →
    BytesAt ranges base (filled base ps)
unfolding BytesAt
filled_located base [] ranges sub apart = tt
filled_located base (p ∷ ps) ranges sub apart =
    let r : Range = record { start = base; bytes = filled base (p ∷ ps) } in
    range_located r ranges (sub r (among_first r [])) apart

-- bytes one after another
pub located_parts : (ranges : List Range) (xs ys : List ℕ) (a : ℕ) → BytesAt ranges a (xs ++ ys) → BytesAt ranges a xs × BytesAt ranges (a + length xs) ys
unfolding BytesAt
located_parts ranges [] ys a located = (tt, subst (λ n. BytesAt ranges n ys) (omega arith) located)
located_parts ranges (x ∷ xs) ys a located = grind (arith, located_parts ranges xs ys (a + 1) located.1)

-- an address with a byte is one of a range
pub address_bounds : (ranges : List Range) (a b : ℕ) → AllByRecursion (λ r. 0 < r.start) ranges → AllByRecursion (λ r. range_end r < 2 ^ 31) ranges →
    byte_at ranges a ≡ Some b → (0 < a) × (a < 2 ^ 31)
address_bounds [] a b low high is = cc
address_bounds (r ∷ ranges) a b low high is =
    elim (cases_Bool (is_in a r)) [
      | inl within ↦
          let parts = and_parts (nat_le r.start a) (nat_lt a (range_end r)) within in
          let above = leb-true r.start a parts.0 in
          let below = ltb-true a (range_end r) parts.1 in
          let start = low.0 in
          let end = high.0 in
          (omega arith, omega arith)
      | inr not_within ↦ address_bounds ranges a b low.1 high.1 (rw not_within at is)
    ]
