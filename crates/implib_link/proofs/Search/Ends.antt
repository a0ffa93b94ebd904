-- A search of any archive ends: each member that is taken was not taken before, and an archive has so many.
use Rattle.std.proofs.Common.{◌≡◌, ℕ, zero, suc, ◌+◌, ◌<◌, ◌≤◌, Bool, true, false, List, [], ◌∷◌, ◌++◌, length, Some, None, refl, sym, ◌∙◌, subst, inl, inr, ◌⊎◌, arith, if◌then◌else◌, Option}
use Rattle.std.specs.Prelude.{◌&&◌, ◌||◌, bytes_eq}
use Rattle.std.specs.List.{Contains}
use Rattle.std.proofs.lemmas.Bool.{and_parts, cases_Bool, false_from_ne_true, true≢false}
use Rattle.std.proofs.lemmas.Slice.Eq.{bytes_eq-Decides}
use Rattle.implib.specs.Members.MemberSpec.{MemberView}
use Rattle.implib.proofs.Link.LinkedMembers.{among_contains}
use Rattle.implib.proofs.Link.Ranges.{Among}
use Rattle.implib_link.specs.Search.Search.{AreTakenIntoAs, PullsIntoAs, TakesIntoAs, unresolved, first_listed, objects_as}
use Rattle.implib_link.proofs.Search.ArchiveMembers.{found_or_not}
use Rattle.implib.specs.Formats.Object.{Object}
use Rattle.implib_link.proofs.Search.Lists.{contains_among, listed_is}
use Rattle.implib.proofs.Link.Definitions.{same_text}
use Rattle.std.proofs.lemmas.Option.{same_Some}

-- Whether two members are the same.

same_names : List (List ℕ) → List (List ℕ) → Bool
same_names [] [] = true
same_names [] (y ∷ ys) = false
same_names (x ∷ xs) [] = false
same_names (x ∷ xs) (y ∷ ys) = bytes_eq x y && same_names xs ys

names_same : (xs ys : List (List ℕ)) → same_names xs ys ≡ true → xs ≡ ys
unfolding same_names
names_same [] ys is = grind (arith, true≢false)
names_same (x ∷ xs) [] is = absurd (true≢false (sym is))
names_same (x ∷ xs) (y ∷ ys) is = grind (arith, names_same xs ys, and_parts, same_names, bytes_eq-Decides)

own_names : (xs : List (List ℕ)) → same_names xs xs ≡ true
unfolding same_names
own_names [] = refl
own_names (x ∷ xs) = rw (same_text x, own_names xs) refl

abbrev is_same : MemberView → MemberView → Bool
is_same m n = bytes_eq m.name n.name && (bytes_eq m.bytes n.bytes && same_names m.symbols n.symbols)

member_same : (m n : MemberView) → is_same m n ≡ true → m ≡ n
member_same m n is =
    let first = and_parts (bytes_eq m.name n.name) (bytes_eq m.bytes n.bytes && same_names m.symbols n.symbols) is in
    let second = and_parts (bytes_eq m.bytes n.bytes) (same_names m.symbols n.symbols) first.1 in
    rw ((bytes_eq-Decides m.name n.name).0 first.0, (bytes_eq-Decides m.bytes n.bytes).0 second.0, names_same m.symbols n.symbols second.1)

-- Whether a member is taken.

pub is_taken : List MemberView → MemberView → Bool
is_taken [] m = false
is_taken (t ∷ taken) m = is_same m t || is_taken taken m

pub taken_among : (taken : List MemberView) (m : MemberView) → is_taken taken m ≡ true → Among m taken
unfolding is_taken Among
taken_among [] m is = absurd (true≢false (sym is))
taken_among (t ∷ taken) m is = grind (arith, taken_among taken m, member_same)

pub among_taken : (taken : List MemberView) (m : MemberView) → Among m taken → is_taken taken m ≡ true
unfolding is_taken Among
among_taken [] m held = absurd held
among_taken (t ∷ taken) m (inl e) = rw (subst (λ y. is_same m y ≡ true) e (rw (same_text m.name, same_text m.bytes, own_names m.symbols) refl)) refl
among_taken (t ∷ taken) m (inr held) = grind (arith, among_taken taken m held)

-- How many of an archive's members are not taken.

pub not_taken : List MemberView → List MemberView → ℕ
not_taken [] taken = 0
not_taken (m ∷ archive) taken = (if is_taken taken m then 0 else 1) + not_taken archive taken

not_more : (archive taken : List MemberView) (t : MemberView) → not_taken archive (t ∷ taken) ≤ not_taken archive taken
unfolding not_taken is_taken
not_more [] taken t = omega arith
not_more (m ∷ archive) taken t = grind (arith, not_more archive taken t)

pub fewer : (archive taken : List MemberView) (t : MemberView) → Among t archive → is_taken taken t ≡ false → not_taken archive (t ∷ taken) < not_taken archive taken
unfolding not_taken is_taken Among
fewer [] taken t held new = absurd held
fewer (m ∷ archive) taken t (inl e) new = grind (arith, not_taken, not_more, same_text, own_names, is_taken)
fewer (m ∷ archive) taken t (inr held) new = grind (arith, fewer archive taken t held new)

-- whether a name finds a member that is not taken
pub first_new : (archive taken : List MemberView) (name : List ℕ) → ((m : MemberView) × (first_listed archive name ≡ Some m) × (Contains taken m → ⊥)) ⊎
    ((m : MemberView) → first_listed archive name ≡ Some m → (Contains taken m → ⊥) → ⊥)
first_new archive taken name =
    elim (found_or_not name archive) [
      | inl none ↦ inr (λ m listed new. (let found : None ≡ Some m = sym none ∙ listed in cc))
      | inr found ↦ elim (cases_Bool (is_taken taken found.0)) [
        | inl is ↦ grind (arith, taken_among taken found.0 is, same_Some, among_contains)
        | inr none ↦ inl (found.0, found.1, λ has. true≢false (sym (among_taken taken found.0 (contains_among found.0 taken has)) ∙ none))
      ]
    ]

none_left : (n m : ℕ) → n < m → m ≤ 0 → ⊥
none_left n m less most = omega arith

less_left : (n m k : ℕ) → n < m → m ≤ suc k → n ≤ k
less_left n m k less most = omega arith

-- A search for given objects ends: one of finitely many names pulls in a member, which is not taken.
module _ (reads : List ℕ → Option Object) (archive : List MemberView) (own : List Object) where
  abbrev left_by : List MemberView → List (List ℕ)
  left_by taken = unresolved (own ++ objects_as reads taken)

  abbrev Pulls : List MemberView → List ℕ → MemberView → Type 0
  Pulls = PullsIntoAs reads archive own

  -- a name that pulls in a member, of these
  PulledIn : List MemberView → List (List ℕ) → Type 0
  PulledIn taken some = (name : List ℕ) × (m : MemberView) × Among name some × Pulls taken name m

  NonePullsIn : List MemberView → List (List ℕ) → Type 0
  NonePullsIn taken some = (name : List ℕ) (m : MemberView) → Among name some → Pulls taken name m → ⊥

  one_pulls : (taken : List MemberView) (name : List ℕ) → Among name (left_by taken) → ((m : MemberView) × Pulls taken name m) ⊎ ((m : MemberView) → Pulls taken name m → ⊥)
  one_pulls taken name named = grind (arith, first_new archive taken name, among_contains name (left_by taken) named)

  pulls_or_not : (taken : List MemberView) (some : List (List ℕ)) → ((name : List ℕ) → Among name some → Among name (left_by taken)) → PulledIn taken some ⊎ NonePullsIn taken some
  unfolding PulledIn NonePullsIn Among
  pulls_or_not taken [] within = inr (λ name m held pulls. held)
  pulls_or_not taken (x ∷ some) within =
      elim (one_pulls taken x (within x (inl refl))) [
        | inl found ↦ inl (x, found.0, inl refl, found.1)
        | inr none ↦ elim (pulls_or_not taken some (λ name held. within name (inr held))) [
          | inl later ↦ inl (later.0, later.1, inr later.2, later.3)
          | inr others ↦ inr (λ name m held pulls. elim held [
            | inl e ↦ none m (subst (λ n. Pulls taken n m) e pulls)
            | inr behind ↦ others name m behind pulls
          ])
        ]
      ]

  fewer_left : (taken : List MemberView) (name : List ℕ) (m : MemberView) → Pulls taken name m → not_taken archive (m ∷ taken) < not_taken archive taken
  fewer_left taken name m pulls =
      fewer archive taken m (listed_is archive name m pulls.listed).0 (false_from_ne_true (is_taken taken m) (λ is. pulls.new (among_contains m taken (taken_among taken m is))))

  finished : (taken : List MemberView) → AreTakenIntoAs reads archive own taken → NonePullsIn taken (left_by taken) → (t : List MemberView) × TakesIntoAs reads archive own t
  unfolding NonePullsIn
  finished taken turn none = (taken, record { in_turn = turn; ended = λ name m pulls. none name m (contains_among name (left_by taken) pulls.named) pulls })

  -- from members that are taken, with at most so many left
  ends_from : (most : ℕ) (taken : List MemberView) → not_taken archive taken ≤ most → AreTakenIntoAs reads archive own taken → (t : List MemberView) × TakesIntoAs reads archive own t
  unfolding PulledIn AreTakenIntoAs
  ends_from zero taken few turn =
      elim (pulls_or_not taken (left_by taken) (λ name held. held)) [
        | inr none ↦ finished taken turn none
        | inl found ↦ absurd (none_left (not_taken archive (found.1 ∷ taken)) (not_taken archive taken) (fewer_left taken found.0 found.1 found.3) few)
      ]
  ends_from (suc most) taken few turn =
      elim (pulls_or_not taken (left_by taken) (λ name held. held)) [
        | inr none ↦ finished taken turn none
        | inl found ↦ grind (arith, less_left, fewer_left, ends_from most (found.1 ∷ taken) (less_left (not_taken archive (found.1 ∷ taken)) (not_taken archive taken) most (fewer_left taken found.0 found.1 found.3) few) ((found.0, found.3), turn))
      ]

  pub into_ends : (taken : List MemberView) × TakesIntoAs reads archive own taken
  unfolding AreTakenIntoAs
  into_ends = ends_from (not_taken archive []) [] (omega arith) tt

  -- each member that is taken leaves fewer
  taken_and_left : (taken : List MemberView) → AreTakenIntoAs reads archive own taken → length taken + not_taken archive taken ≤ not_taken archive []
  unfolding AreTakenIntoAs
  taken_and_left [] turn = omega arith
  taken_and_left (m ∷ earlier) turn = grind (arith, taken_and_left earlier turn.1, not_taken, fewer_left)

none_taken : (archive : List MemberView) → not_taken archive [] ≤ length archive
unfolding not_taken is_taken
none_taken [] = omega arith
none_taken (m ∷ archive) = grind (arith, none_taken archive)

pub search_bounded : (reads : List ℕ → Option Object) (archive : List MemberView) (own : List Object) (taken : List MemberView) → AreTakenIntoAs reads archive own taken → length taken ≤ length archive
search_bounded reads archive own taken turn = grind (arith, not_taken, taken_and_left, none_taken)
