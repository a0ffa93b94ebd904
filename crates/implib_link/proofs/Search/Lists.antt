-- An archive whose listed symbols differ: each name has one member, and what members leave and claim.
use Rattle.std.proofs.Common.{◌≡◌, ℕ, zero, suc, true, false, List, [], ◌∷◌, ◌++◌, map, Option, Some, refl, ap, sym, ◌∙◌, subst, inl, inr, ◌⊎◌, arith, Bool}
use Rattle.std.specs.Prelude.{bytes_eq, slice_get, not}
use Rattle.std.specs.List.{AllByRecursion, Contains, IsDistinct, cons_option, flat_map, list_any, list_all, filter, filter_map}
use Rattle.std.proofs.lemmas.Bool.{cases_Bool, false_from_ne_true, or_parts, true≢false, and_parts}
use Rattle.std.proofs.lemmas.Slice.Eq.{bytes_eq-Decides}
use Rattle.implib.specs.Members.MemberSpec.{MemberView}
use Rattle.implib.specs.Formats.Object.{Object}
use Rattle.implib.proofs.Link.Ranges.{Among, all_among, among_back, among_first, among_later, among_flat}
use Rattle.implib_link.specs.Search.Search.{first_listed, is_listed_for, objects_as}
use Rattle.std.proofs.lemmas.Option.{same_Some}

pub all_from : {X : Type 0} (P : X → Type 0) (xs : List X) → ((x : X) → Among x xs → P x) → AllByRecursion P xs
all_from P [] each = tt
all_from P (x ∷ xs) each = (each x (among_first x xs), all_from P xs (λ y held. each y (among_later y x xs held)))

pub contains_among : {X : Type 0} (x : X) (xs : List X) → Contains xs x → Among x xs
unfolding Among
contains_among x [] (i, below, is) = absurd (omega arith)
contains_among x (y ∷ xs) (zero, below, is) = inl (sym is)
contains_among x (y ∷ xs) (suc i, below, is) = inr (contains_among x xs (i, omega arith, is))

pub among_at : {X : Type 0} (x : X) (xs : List X) (n : ℕ) → slice_get xs n ≡ Some x → Among x xs
unfolding Among
among_at x [] n is = cc
among_at x (y ∷ xs) zero is = inl (let same : y ≡ x = cc in sym same)
among_at x (y ∷ xs) (suc n) is = inr (among_at x xs n is)

pub among_either : {X : Type 0} (x : X) (xs ys : List X) → Among x (xs ++ ys) → Among x xs ⊎ Among x ys
unfolding Among
among_either x [] ys m = inr m
among_either x (y ∷ xs) ys (inl e) = inl (inl e)
among_either x (y ∷ xs) ys (inr m) = elim (among_either x xs ys m) [ inl first ↦ inl (inr first) | inr later ↦ inr later ]

pub at_index : {X : Type 0} (x : X) (xs : List X) → Among x xs → (n : ℕ) × (slice_get xs n ≡ Some x)
unfolding Among
at_index x [] held = absurd held
at_index x (y ∷ xs) (inl e) = (0, ap Some (sym e))
at_index x (y ∷ xs) (inr held) = let later = at_index x xs held in (suc later.0, later.1)

pub among_option : {X : Type 0} (o : Option X) (x : X) (xs : List X) → Among x xs → Among x (cons_option o xs)
unfolding Among
among_option o x xs held = grind arith

pub all_parts : {X : Type 0} (P : X → Type 0) (xs ys : List X) → AllByRecursion P (xs ++ ys) → AllByRecursion P xs × AllByRecursion P ys
all_parts P [] ys all = (tt, all)
all_parts P (x ∷ xs) ys all = let parts = all_parts P xs ys all.1 in ((all.0, parts.0), parts.1)

-- where a test passes none
pub none_among : {X : Type 0} (test : X → Bool) (x : X) (xs : List X) → Among x xs → list_any test xs ≡ false → test x ≡ false
unfolding Among
none_among test x [] held none = absurd held
none_among test x (y ∷ xs) (inl e) none = subst (λ z. test z ≡ false) (sym e) (or_parts (test y) (list_any test xs) none).0
none_among test x (y ∷ xs) (inr held) none = none_among test x xs held (or_parts (test y) (list_any test xs) none).1

pub among_mapped : {X Y : Type 0} (f : X → Y) (y : Y) (xs : List X) → Among y (map f xs) → (x : X) × Among x xs × (y ≡ f x)
unfolding Among
among_mapped f y [] m = absurd m
among_mapped f y (x ∷ xs) (inl e) = (x, inl refl, e)
among_mapped f y (x ∷ xs) (inr m) = let later = among_mapped f y xs m in (later.0, inr later.1, later.2)

-- a name is among names exactly if the test finds it

-- what passes a test, where some does
pub any_of : {X : Type 0} (test : X → Bool) (xs : List X) → list_any test xs ≡ true → (x : X) × Among x xs × (test x ≡ true)
unfolding Among
any_of test [] is = absurd (true≢false (sym is))
any_of test (x ∷ xs) is = grind (arith, any_of test xs)

pub any_from : {X : Type 0} (test : X → Bool) (x : X) (xs : List X) → Among x xs → test x ≡ true → list_any test xs ≡ true
unfolding Among
any_from test x [] held is = absurd held
any_from test x (y ∷ xs) (inl e) is = rw (subst (λ z. test z ≡ true) e is) refl
any_from test x (y ∷ xs) (inr held) is = elim (cases_Bool (test y)) [ inl here ↦ rw here refl | inr none ↦ rw none (any_from test x xs held is) ]

pub any_among : (name : List ℕ) (names : List (List ℕ)) → list_any (bytes_eq name) names ≡ true → Among name names
any_among name names is = let by = any_of (bytes_eq name) names is in subst (λ n. Among n names) (sym ((bytes_eq-Decides name by.0).0 by.2)) by.1

pub among_any : (name : List ℕ) (names : List (List ℕ)) → Among name names → list_any (bytes_eq name) names ≡ true
among_any name names held = any_from (bytes_eq name) name names held ((bytes_eq-Decides name name).1 refl)

pub apart_none : (name : List ℕ) (names : List (List ℕ)) → Among name names → AllByRecursion (λ other. bytes_eq name other ≡ false) names → ⊥
apart_none name names m apart = grind (arith, bytes_eq-Decides, all_among)

pub distinct_later : (first later : List (List ℕ)) → IsDistinct bytes_eq (first ++ later) → IsDistinct bytes_eq later
unfolding IsDistinct
distinct_later [] later distinct = distinct
distinct_later (x ∷ first) later distinct = distinct_later first later distinct.1

pub distinct_apart : (first later : List (List ℕ)) (name : List ℕ) → IsDistinct bytes_eq (first ++ later) → Among name first → Among name later → ⊥
unfolding IsDistinct Among
distinct_apart [] later name distinct m behind = absurd m
distinct_apart (x ∷ first) later name distinct (inl e) behind =
    apart_none x (first ++ later) (among_back x first later (subst (λ n. Among n later) e behind)) distinct.0
distinct_apart (x ∷ first) later name distinct (inr m) behind = distinct_apart first later name distinct.1 m behind

abbrev pub all_listed : List MemberView → List (List ℕ)
all_listed members = flat_map (λ m. m.symbols) members

pub among_listed : (name : List ℕ) (m : MemberView) (archive : List MemberView) → Among m archive → Among name m.symbols → Among name (all_listed archive)
among_listed name m archive held is = among_flat (λ (x : MemberView). x.symbols) m archive name held is

-- the member that a name is listed for is the first
pub listed_once : (archive : List MemberView) (name : List ℕ) (m : MemberView) → IsDistinct bytes_eq (all_listed archive) →
    Among m archive → Among name m.symbols → first_listed archive name ≡ Some m
unfolding Among
listed_once [] name m distinct held is = absurd held
listed_once (x ∷ archive) name m distinct (inl e) is = grind (arith, among_any)
listed_once (x ∷ archive) name m distinct (inr held) is =
    elim (cases_Bool (is_listed_for name x)) [
      | inl found ↦ absurd (distinct_apart x.symbols (all_listed archive) name distinct (any_among name x.symbols found) (among_listed name m archive held is))
      | inr other ↦ rw other (listed_once archive name m (distinct_later x.symbols (all_listed archive) distinct) held is)
    ]

-- the first member that a name is listed for is a member that it is listed for
pub listed_is : (archive : List MemberView) (name : List ℕ) (m : MemberView) → first_listed archive name ≡ Some m → Among m archive × Among name m.symbols
unfolding Among
listed_is [] name m is = cc
listed_is (x ∷ archive) name m is = grind (arith, listed_is archive name m, same_Some, any_among)

pub among_flat_map : {X Y : Type 0} (f : X → List Y) (name : Y) (xs : List X) → Among name (flat_map f xs) → (x : X) × Among x xs × Among name (f x)
unfolding Among
among_flat_map f name [] held = absurd held
among_flat_map f name (x ∷ xs) held = grind (arith, among_flat_map f name xs, among_either name (f x) (flat_map f xs) held)

pub kept_from : {X Y : Type 0} (keep : X → Option Y) (xs : List X) (y : Y) → Among y (filter_map keep xs) → (x : X) × Among x xs × (keep x ≡ Some y)
unfolding Among
kept_from keep [] y held = absurd held
kept_from keep (x ∷ rest) y held = grind (arith, kept_from keep rest y)

pub kept_into : {X Y : Type 0} (keep : X → Option Y) (xs : List X) (y : Y) (x : X) → Among x xs → keep x ≡ Some y → Among y (filter_map keep xs)
unfolding Among
kept_into keep [] y x held is = absurd held
kept_into keep (z ∷ rest) y x (inl same) is = grind (arith, among_first)
kept_into keep (z ∷ rest) y x (inr held) is = among_option (keep z) y (filter_map keep rest) (kept_into keep rest y x held is)

-- a name of what a linker reads a member as
pub record NameAs (reads : List ℕ → Option Object) (f : Object → List (List ℕ)) (name : List ℕ) (members : List MemberView) : Type 0 where
  pub member : MemberView
  pub held : Among member members
  pub object : Object
  pub taken : reads member.bytes ≡ Some object
  pub among : Among name (f object)

-- a name of the objects that members are read as is one of the object of some member
pub name_as : (reads : List ℕ → Option Object) (f : Object → List (List ℕ)) (name : List ℕ) (members : List MemberView) → Among name (flat_map f (objects_as reads members)) → NameAs reads f name members
name_as reads f name members held = grind (arith, among_flat_map, kept_from)

-- and a name of the object of a member is one of theirs
pub as_name : (reads : List ℕ → Option Object) (f : Object → List (List ℕ)) (name : List ℕ) (members : List MemberView) (m : MemberView) (o : Object) → Among m members → reads m.bytes ≡ Some o → Among name (f o) →
    Among name (flat_map f (objects_as reads members))
as_name reads f name members m o held is there = among_flat f o (objects_as reads members) name (kept_into (λ (x : MemberView). reads x.bytes) members o m held is) there

-- the names of more members' objects are more
pub names_more : (reads : List ℕ → Option Object) (f : Object → List (List ℕ)) (name : List ℕ) (some more : List MemberView) → ((m : MemberView) → Among m some → Among m more) →
    Among name (flat_map f (objects_as reads some)) → Among name (flat_map f (objects_as reads more))
names_more reads f name some more within held = let by = name_as reads f name some held in as_name reads f name more by.member by.object (within by.member by.held) by.taken by.among

-- a name that some of these is listed for
pub any_member : (name : List ℕ) (members : List MemberView) → list_any (is_listed_for name) members ≡ true →
    (m : MemberView) × Among m members × Among name m.symbols
any_member name members is = let by = any_of (is_listed_for name) members is in (by.0, by.1, any_among name by.0.symbols by.2)

pub none_listed : (name : List ℕ) (m : MemberView) (members : List MemberView) → list_any (is_listed_for name) members ≡ false → Among m members →
    Among name m.symbols → ⊥
none_listed name m members none held is = true≢false (sym (among_any name m.symbols is) ∙ none_among (is_listed_for name) m members held none)

-- Names that differ, put together and apart.

none_same : (x : List ℕ) (names : List (List ℕ)) → (Among x names → ⊥) → AllByRecursion (λ other. bytes_eq x other ≡ false) names
unfolding Among
none_same x [] none = tt
none_same x (n ∷ names) none = grind (arith, none_same x names, false_from_ne_true, bytes_eq-Decides)

pub distinct_join : (first later : List (List ℕ)) → IsDistinct bytes_eq first → IsDistinct bytes_eq later →
    ((name : List ℕ) → Among name first → Among name later → ⊥) → IsDistinct bytes_eq (first ++ later)
unfolding IsDistinct Among
distinct_join [] later own behind apart = behind
distinct_join (x ∷ first) later own behind apart =
    let none : Among x (first ++ later) → ⊥ = λ held. grind (arith, among_either x first later held, apart_none) in
    (none_same x (first ++ later) none, distinct_join first later own.1 behind (λ name held. apart name (inr held)))

-- each of a list passes a test that all pass
pub each_of : {X : Type 0} (test : X → Bool) (x : X) (xs : List X) → list_all test xs ≡ true → Among x xs → test x ≡ true
unfolding Among
each_of test x [] all m = absurd m
each_of test x (y ∷ xs) all (inl same) = ap test same ∙ (and_parts (test y) (list_all test xs) all).0
each_of test x (y ∷ xs) all (inr m) = each_of test x xs (and_parts (test y) (list_all test xs) all).1 m

-- what passes a test
pub passing : {X : Type 0} (test : X → Bool) (x : X) (xs : List X) → Among x (filter test xs) → Among x xs × (test x ≡ true)
unfolding Among
passing test x [] held = absurd held
passing test x (y ∷ xs) held = grind (arith, passing test x xs)

pub passes : {X : Type 0} (test : X → Bool) (x : X) (xs : List X) → Among x xs → test x ≡ true → Among x (filter test xs)
unfolding Among
passes test x [] held is = absurd held
passes test x (y ∷ xs) (inl e) is = rw (subst (λ z. test z ≡ true) e is) (inl e)
passes test x (y ∷ xs) (inr held) is = grind (arith, passes test x xs held is)

pub from_not : (b : Bool) → not b ≡ true → b ≡ false
from_not b is = grind (arith, true≢false)

pub among_filter : {X : Type 0} (test : X → Bool) (x : X) (xs : List X) → Among x (filter test xs) → Among x xs
among_filter test x xs held = (passing test x xs held).0
