-- How many of some keys are one, as a loop counts them.
use Rattle.std.proofs.Common.{◌≡◌, ◌∙◌, ℕ, ◌+◌, ◌-◌, ◌<◌, Bool, true, false, not, ◌&&◌, List, [], ◌∷◌, ◌++◌, Option, Some, ap, append_assoc, arith, bytes_eq, drop, get_or, length, map, nat_le, nat_lt, refl, sym, take, if◌then◌else◌}
use Rattle.std.specs.Option.{unwrap_or}
use Rattle.std.proofs.lemmas.Bool.{true≢false}
use Rattle.std.proofs.lemmas.Slice.Eq.{bytes_eq-Decides}
use Rattle.std.proofs.lemmas.List.{drop_more, map-append, take_more}
use Rattle.std.proofs.lemmas.List.Sums.{sum_by_push}
use Rattle.implib_compare.specs.Partners.{has_no_byte, how_many, lack_partners, lacks_partner}

-- 1 for a key that is this one
abbrev pub one_if : List ℕ → List ℕ → ℕ
one_if key k = if bytes_eq key k then 1 else 0

-- the keys of items, one more of them
pub keys_more : {A : Type 0} (view : A → List ℕ) (items : List A) (i : ℕ) (d : A) → i < length items
    → map view (take (i + 1) items) ≡ map view (take i items) ++ view (get_or items i d) ∷ []
keys_more view items i d within = ap (map view) (take_more items i d within) ∙ map-append view (take i items) (get_or items i d ∷ [])

-- one more of some keys
pub how_many_more : {A : Type 0} (view : A → List ℕ) (items : List A) (i : ℕ) (d : A) (key : List ℕ) → i < length items
    → how_many key (map view (take (i + 1) items)) ≡ how_many key (map view (take i items)) + one_if key (view (get_or items i d))
how_many_more view items i d key within =
    ap (how_many key) (keys_more view items i d within)
    ∙ sum_by_push (one_if key) (map view (take i items)) (view (get_or items i d))

-- a step of taking away
pub taken-more : {A : Type 0} (view : A → List ℕ) (items : List A) (i : ℕ) (d : A) (key noted : List ℕ) (all before after : ℕ) → i < length items
    → noted ≡ view (get_or items i d) → before ≡ all - how_many key (map view (take i items)) → after ≡ before - one_if key noted
    → after ≡ all - how_many key (map view (take (i + 1) items))
taken-more view items i d key noted all before after within is was step =
    let more = how_many_more view items i d key within in
    let same : one_if key noted ≡ one_if key (view (get_or items i d)) = ap (one_if key) is in
    omega (arith, more, same, was, step)

none_left : (a b : ℕ) → not (nat_lt 0 (a - b)) ≡ nat_le a b
none_left a b = grind arith

-- whether a key finds no partner
pub lacks_by : (before : List (List ℕ)) (key : List ℕ) (others : List (List ℕ)) (left : ℕ) → left ≡ how_many key others - how_many key before
    → (not (has_no_byte key) && not (nat_lt 0 left)) ≡ lacks_partner before key others
lacks_by before key others left is =
    ap (λ n. not (has_no_byte key) && not (nat_lt 0 n)) is
    ∙ ap (λ b. not (has_no_byte key) && b) (none_left (how_many key others) (how_many key before))

-- one flag more
pub flags_more : {A : Type 0} (view : A → List ℕ) (items : List A) (i : ℕ) (d : A) (others : List (List ℕ)) (flags next all : List Bool) (flag : Bool) (key : List ℕ) (left : ℕ) → i < length items
    → key ≡ view (get_or items i d) → left ≡ how_many key others - how_many key (map view (take i items))
    → flag ≡ (not (has_no_byte key) && not (nat_lt 0 left)) → next ≡ flags ++ flag ∷ []
    → flags ++ lack_partners (map view (take i items)) (map view (drop i items)) others ≡ all
    → next ++ lack_partners (map view (take (i + 1) items)) (map view (drop (i + 1) items)) others ≡ all
flags_more view items i d others flags next all flag key left within is count flagged pushed so_far =
    let before = map view (take i items) in
    let k = view (get_or items i d) in
    let rest = map view (drop (i + 1) items) in
    let lacks : flag ≡ lacks_partner before k others =
    flagged ∙ lacks_by before key others left count ∙ ap (λ x. lacks_partner before x others) is in
    ap (λ fs. fs ++ lack_partners (map view (take (i + 1) items)) rest others) pushed
    ∙ append_assoc flags (flag ∷ []) (lack_partners (map view (take (i + 1) items)) rest others)
    ∙ ap (λ f. flags ++ (f ∷ lack_partners (map view (take (i + 1) items)) rest others)) lacks
    ∙ ap (λ b. flags ++ (lacks_partner before k others ∷ lack_partners b rest others)) (keys_more view items i d within)
    ∙ ap (λ t. flags ++ lack_partners before (map view t) others) (sym (drop_more items i d within))
    ∙ so_far

other_way : (key other : List ℕ) → bytes_eq key other ≡ false → bytes_eq other key ≡ false
other_way key other apart = by (bytes_eq other key) refl
  where
    by : (b : Bool) → bytes_eq other key ≡ b → bytes_eq other key ≡ false
    by false is = is
    by true is = absurd (true≢false (sym ((bytes_eq-Decides key other).1 (sym ((bytes_eq-Decides other key).0 is))) ∙ apart))

-- A map in which a key has another number: what another key has.
with_number : (get : List ℕ → Option ℕ) (key other : List ℕ) (n : ℕ) → (bytes_eq key other ≡ true → unwrap_or (if bytes_eq key other then Some n else get other) 0 ≡ n)
    × (bytes_eq key other ≡ false → unwrap_or (if bytes_eq key other then Some n else get other) 0 ≡ unwrap_or (get other) 0)
with_number get key other n =
    (λ same. ap (λ b. unwrap_or (if b then Some n else get other) 0) same, λ apart. ap (λ b. unwrap_or (if b then Some n else get other) 0) apart)

-- one more of a key
pub one_more : (get : List ℕ → Option ℕ) (key other : List ℕ) (n : ℕ) → n ≡ unwrap_or (get key) 0
    → unwrap_or (if bytes_eq key other then Some (n + 1) else get other) 0 ≡ unwrap_or (get other) 0 + one_if other key
one_more get key other n is = by (bytes_eq key other) refl
  where
    by : (b : Bool) → bytes_eq key other ≡ b → unwrap_or (if bytes_eq key other then Some (n + 1) else get other) 0 ≡ unwrap_or (get other) 0 + one_if other key
    by true same =
        let eq : key ≡ other = (bytes_eq-Decides key other).0 same in
        let back : one_if other key ≡ 1 = ap (λ b. if b then 1 else 0) ((bytes_eq-Decides other key).1 (sym eq)) in
        omega (arith, (with_number get key other (n + 1)).0 same, back, is, ap (λ k. unwrap_or (get k) 0) eq)
    by false apart =
        let back : one_if other key ≡ 0 = ap (λ b. if b then 1 else 0) (other_way key other apart) in
        omega (arith, (with_number get key other (n + 1)).1 apart, back)

-- one less of a key
pub one_less : (get : List ℕ → Option ℕ) (key other : List ℕ) (n : ℕ) → n ≡ unwrap_or (get key) 0
    → unwrap_or (if bytes_eq key other then Some (n - 1) else get other) 0 ≡ unwrap_or (get other) 0 - one_if other key
one_less get key other n is = by (bytes_eq key other) refl
  where
    by : (b : Bool) → bytes_eq key other ≡ b → unwrap_or (if bytes_eq key other then Some (n - 1) else get other) 0 ≡ unwrap_or (get other) 0 - one_if other key
    by true same =
        let eq : key ≡ other = (bytes_eq-Decides key other).0 same in
        let back : one_if other key ≡ 1 = ap (λ b. if b then 1 else 0) ((bytes_eq-Decides other key).1 (sym eq)) in
        omega (arith, (with_number get key other (n - 1)).0 same, back, is, ap (λ k. unwrap_or (get k) 0) eq)
    by false apart =
        let back : one_if other key ≡ 0 = ap (λ b. if b then 1 else 0) (other_way key other apart) in
        omega (arith, (with_number get key other (n - 1)).1 apart, back)
