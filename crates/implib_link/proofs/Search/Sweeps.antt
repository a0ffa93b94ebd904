-- GNU `ld`'s sweeps of an archive take what a search takes that goes by the first member, where no two members list one
-- name.
use Rattle.std.proofs.Common.{◌≡◌, ℕ, ◌⊎◌, zero, suc, ◌+◌, ◌<◌, ◌≤◌, true, false, List, [], ◌∷◌, ◌++◌, length, Option, Some, None, refl, ap, sym, ◌∙◌, subst, inl, inr, arith}
use Rattle.std.specs.Prelude.{◌==◌, bytes_eq, not, slice_get}
use Rattle.std.specs.List.{IsDistinct, cons_option, list_any}
use Rattle.std.proofs.lemmas.Bool.{and_parts, cases_Bool, eq-eqb, eqb-true, true≢false}
use Rattle.implib.specs.Formats.Object.{Object}
use Rattle.implib.specs.Members.MemberSpec.{MemberView}
use Rattle.implib.proofs.Link.LinkedMembers.{among_contains, among_map}
use Rattle.implib.proofs.Link.Ranges.{Among, among_first, among_flat, among_later}
use Rattle.implib_link.specs.Search.Search.{AreTakenIntoAs, PullsIntoAs, TakesIntoAs, unresolved, first_listed, is_listed_for, objects_as, IndexEntry, SweepsTake, entries_at, index_at, index_of, is_due, is_left, members_at, numbers_from, sweeps, swept}
use Rattle.implib_link.proofs.Search.Lists.{all_listed, among_any, among_flat_map, among_listed, among_mapped, any_among, contains_among, distinct_apart, distinct_later, listed_is, among_at, at_index, any_from, any_of, kept_into, kept_from}
use Rattle.std.proofs.lemmas.Option.{same_Some, slice_get_within}

-- Numbers and members.

-- a symbol has one number, where all symbols differ
pub one_number : (archive : List MemberView) (name : List ℕ) (n k : ℕ) (m x : MemberView) → IsDistinct bytes_eq (all_listed archive) → slice_get archive n ≡ Some m → slice_get archive k ≡ Some x →
    Among name m.symbols → Among name x.symbols → n ≡ k
one_number (y ∷ archive) name zero (suc k) m x distinct at other listed again = grind (arith, all_listed archive, among_listed name x archive (among_at x archive k other) again, among_at x archive k other, distinct_apart)
one_number (y ∷ archive) name (suc n) zero m x distinct at other listed again = grind (arith, all_listed archive, among_listed name m archive (among_at m archive n at) listed, among_at m archive n, distinct_apart)
one_number (y ∷ archive) name (suc n) (suc k) m x distinct at other listed again = grind (arith, one_number archive name n k m x (distinct_later y.symbols (all_listed archive) distinct))
one_number archive name n k m x distinct at other listed again = cc

pub none_first : (name : List ℕ) (some : List MemberView) (m : MemberView) → first_listed some name ≡ None → Among m some → Among name m.symbols → ⊥
unfolding Among
none_first name [] m none held listed = held
none_first name (x ∷ some) m none held listed = grind (arith, none_first name some m, among_any)

-- no two numbers' members are listed for a name
abbrev pub IsOnce : List MemberView → List ℕ → Type 0
IsOnce archive name = (n k : ℕ) (m x : MemberView) → slice_get archive n ≡ Some m → Among name m.symbols → slice_get archive k ≡ Some x → Among name x.symbols → n ≡ k

pub once_by : (archive : List MemberView) (name : List ℕ) → IsDistinct bytes_eq (all_listed archive) → IsOnce archive name
once_by archive name distinct n k m x at listed other again = one_number archive name n k m x distinct at other listed again

-- no member in front of that of a number is listed for a name, if this one is
abbrev pub IsFirstAt : List MemberView → List ℕ → ℕ → Type 0
IsFirstAt archive name n = (k : ℕ) (m x : MemberView) → slice_get archive n ≡ Some m → Among name m.symbols → slice_get archive k ≡ Some x → Among name x.symbols → n ≤ k

pub first_at : (archive : List MemberView) (name : List ℕ) (n : ℕ) (m : MemberView) → IsFirstAt archive name n → slice_get archive n ≡ Some m → Among name m.symbols → first_listed archive name ≡ Some m
first_at [] name n m first at listed = absurd (cc)
first_at (y ∷ archive) name zero m first at listed = grind (arith, same_Some, among_any)
first_at (y ∷ archive) name (suc n) m first at listed =
    elim (cases_Bool (is_listed_for name y)) [
      | inl here ↦ absurd (omega (arith, ((first 0 m y at listed refl (any_among name y.symbols here))), first 0 m y at listed refl (any_among name y.symbols here)))
      | inr other ↦ rw other (first_at archive name n m (λ k a b is held again names. less n k (first (suc k) a b is held again names)) at listed)
    ]
  where
    less : (i k : ℕ) → suc i ≤ suc k → i ≤ k
    less i k is = omega (arith, is)

-- A number is taken exactly where its member is.

pub number_among : (n : ℕ) (numbers : List ℕ) → list_any (λ number. number == n) numbers ≡ true → Among n numbers
number_among n numbers is = let by = any_of (λ number. number == n) numbers is in subst (λ k. Among k numbers) (eqb-true by.0 n by.2) by.1

pub among_number : (n : ℕ) (numbers : List ℕ) → Among n numbers → list_any (λ number. number == n) numbers ≡ true
among_number n numbers held = any_from (λ number. number == n) n numbers held (eq-eqb n n refl)

pub taken_number : (archive : List MemberView) (numbers : List ℕ) (m : MemberView) → Among m (members_at archive numbers) → (n : ℕ) × Among n numbers × (slice_get archive n ≡ Some m)
taken_number archive numbers m held = kept_from (slice_get archive) numbers m held

pub number_taken : (archive : List MemberView) (numbers : List ℕ) (n : ℕ) (m : MemberView) → Among n numbers → slice_get archive n ≡ Some m → Among m (members_at archive numbers)
number_taken archive numbers n m held at = kept_into (slice_get archive) numbers m n held at

-- The index.

-- an entry is of a member that lists its name
abbrev pub IsEntry : List MemberView → IndexEntry → Type 0
IsEntry archive e = (m : MemberView) × (slice_get archive e.number ≡ Some m) × Among e.name m.symbols

entry_at : (archive : List MemberView) (number : ℕ) (o : Option MemberView) (e : IndexEntry) → slice_get archive number ≡ o → Among e (entries_at number o) → IsEntry archive e
unfolding Among
entry_at archive number None e is held = absurd held
entry_at archive number (Some m) e is held =
    let from = among_mapped (λ (name : List ℕ). record { name = name; number = number }) e m.symbols held in (
      m,
      subst (λ k. slice_get archive k ≡ Some m) (sym (ap (λ (x : IndexEntry). x.number) from.2)) is,
      subst (λ name. Among name m.symbols) (sym (ap (λ (x : IndexEntry). x.name) from.2)) from.1,
    )

entry_number : (number : ℕ) (o : Option MemberView) (e : IndexEntry) → Among e (entries_at number o) → e.number ≡ number
unfolding Among
entry_number number o e held = grind (arith, among_mapped)

-- an entry of an index is of a member of its numbers
pub entries_of : (archive : List MemberView) (numbers : List ℕ) (e : IndexEntry) → Among e (index_at archive numbers) → IsEntry archive e × Among e.number numbers
entries_of archive numbers e held = grind (arith, among_flat_map, entry_at, entry_number)

all_entries : (archive : List MemberView) (e : IndexEntry) → Among e (index_of archive) → IsEntry archive e
all_entries archive e held = (entries_of archive (numbers_from (length archive) 0) e held).0

pub number_there : (count first n : ℕ) → first ≤ n → n < first + count → Among n (numbers_from count first)
unfolding Among
number_there zero first n from below = absurd (omega arith)
number_there (suc count) first n from below =
    elim (cases_Bool (n == first)) [
      | inl same ↦ inl (eqb-true n first same)
      | inr other ↦ (let differ : n ≡ first → ⊥ = λ same. true≢false (sym (eq-eqb n first same) ∙ other) in inr (number_there count (suc first) n (omega arith) (omega arith)))
    ]

-- a member of these numbers has an entry for each symbol
pub entry_there : (archive : List MemberView) (numbers : List ℕ) (n : ℕ) (m : MemberView) (name : List ℕ) → slice_get archive n ≡ Some m → Among n numbers → Among name m.symbols →
    Among (record { name = name; number = n }) (index_at archive numbers)
entry_there archive numbers n m name at held listed =
    among_flat (λ (number : ℕ). entries_at number (slice_get archive number)) n numbers (record { name = name; number = n }) held
    (subst (λ o. Among (record { name = name; number = n }) (entries_at n o)) (sym at) (among_map (λ (x : List ℕ). record { name = x; number = n }) name m.symbols listed))

pub all_there : (archive : List MemberView) (n : ℕ) (m : MemberView) → slice_get archive n ≡ Some m → Among n (numbers_from (length archive) 0)
all_there archive n m at = (let below : n < length archive = slice_get_within archive n m at in number_there (length archive) 0 n (omega arith) (omega arith))

-- Sweeps.

module _ (reads : List ℕ → Option Object) (archive : List MemberView) (own : List Object) where
  -- a sweep drops nothing
  grows : (index : List IndexEntry) (numbers : List ℕ) → length numbers ≤ length (swept reads archive own index numbers)
  unfolding swept
  grows [] numbers = omega arith
  grows (e ∷ index) numbers = grind (arith, grows index (e.number ∷ numbers), grows index numbers)

  pub swept_keeps : (index : List IndexEntry) (numbers : List ℕ) (n : ℕ) → Among n numbers → Among n (swept reads archive own index numbers)
  unfolding swept
  swept_keeps [] numbers n held = held
  swept_keeps (e ∷ index) numbers n held = grind (arith, swept_keeps index (e.number ∷ numbers) n (among_later n e.number numbers held), swept_keeps index numbers n held)

  pub sweeps_keep : (index : List IndexEntry) (count : ℕ) (numbers : List ℕ) (n : ℕ) → Among n numbers → Among n (sweeps reads archive own index count numbers)
  unfolding sweeps
  sweeps_keep index zero numbers n held = held
  sweeps_keep index (suc count) numbers n held = sweeps_keep index count (swept reads archive own index numbers) n (swept_keeps index numbers n held)

  -- what a sweep takes is of its entries
  pub swept_adds : (index : List IndexEntry) (numbers : List ℕ) (n : ℕ) → Among n (swept reads archive own index numbers) → Among n numbers ⊎ ((e : IndexEntry) × Among e index × (n ≡ e.number))
  unfolding swept Among
  swept_adds [] numbers n held = inl held
  swept_adds (e ∷ index) numbers n held = grind (arith, swept_adds index (e.number ∷ numbers) n, swept_adds index numbers n)

  -- a sweep that takes nothing finds no entry whose member is to be taken
  pub none_due : (index : List IndexEntry) (numbers : List ℕ) → swept reads archive own index numbers ≡ numbers → (e : IndexEntry) → Among e index → is_due reads archive own numbers e ≡ false
  unfolding swept Among
  none_due [] numbers ended e held = absurd held
  none_due (x ∷ index) numbers ended e held = grind (arith, none_due index numbers, grows index (x.number ∷ numbers))

  -- so a name that is left unresolved, and that an entry has, is that of a member that is taken
  pub none_left : (index : List IndexEntry) (numbers : List ℕ) → swept reads archive own index numbers ≡ numbers → (e : IndexEntry) → Among e index →
      Among e.name (unresolved (own ++ objects_as reads (members_at archive numbers))) → Among e.number numbers
  none_left index numbers ended e held left = grind (arith, among_any e.name (unresolved (own ++ objects_as reads (members_at archive numbers))) left, none_due index numbers ended e held, number_among)

  -- an entry whose member is to be taken pulls it in, where it and those that are taken are the first that are listed for its name
  due_pulls : (numbers : List ℕ) (e : IndexEntry) → (from : IsEntry archive e) → ((n : ℕ) → Among n (e.number ∷ numbers) → IsFirstAt archive e.name n) → is_due reads archive own numbers e ≡ true →
      PullsIntoAs reads archive own (members_at archive numbers) e.name from.0
  due_pulls numbers e from first due =
      let parts = and_parts (is_left reads archive own numbers e.name) (not (list_any (λ number. number == e.number) numbers)) due in
      let own_first = first e.number (among_first e.number numbers) in
      record {
        named = grind (arith, among_contains, any_among);
        listed = first_at archive e.name e.number from.0 own_first from.1 from.2;
        new = λ held.
            let other = taken_number archive numbers from.0 (contains_among from.0 (members_at archive numbers) held) in
            let down : other.0 ≤ e.number = first other.0 (among_later other.0 e.number numbers other.1) e.number from.0 from.0 other.2 from.2 from.1 from.2 in
            true≢false (sym parts.1 ∙ ap not (among_number e.number numbers (subst (λ k. Among k numbers) (omega (arith, own_first other.0 from.0 from.0 from.1 from.2 other.2 from.2)) other.1)));
      }

  -- What a sweep takes for these objects is taken for others (`whole`), for which each pull is one, too; where of what is taken
  -- in the end (`Kept`) each is the first that is listed for a name that is left on the way (`sure`).
  module _ (whole : List Object) (Kept : ℕ → Type 0)
      (sure : (numbers : List ℕ) → ((n : ℕ) → Among n numbers → Kept n) → (name : List ℕ) → Among name (unresolved (own ++ objects_as reads (members_at archive numbers))) → (n : ℕ) → Kept n → IsFirstAt archive name n) where
    abbrev Within : List ℕ → Type 0
    Within numbers = (n : ℕ) → Among n numbers → Kept n

    -- an entry, and what it pulls in
    abbrev pub Lifts : IndexEntry → Type 0
    Lifts e = (from : IsEntry archive e) × ((numbers : List ℕ) → PullsIntoAs reads archive own (members_at archive numbers) e.name from.0 →
        PullsIntoAs reads archive whole (members_at archive numbers) e.name from.0)

    one_more : (numbers : List ℕ) (e : IndexEntry) (from : Lifts e) → Within (e.number ∷ numbers) → is_due reads archive own numbers e ≡ true → AreTakenIntoAs reads archive whole (members_at archive numbers) →
        AreTakenIntoAs reads archive whole (members_at archive (e.number ∷ numbers))
    unfolding AreTakenIntoAs
    one_more numbers e from within due before =
        let left = any_among e.name (unresolved (own ++ objects_as reads (members_at archive numbers))) (and_parts (is_left reads archive own numbers e.name) (not (list_any (λ number. number == e.number) numbers)) due).0 in
        let first = λ (n : ℕ) (held : Among n (e.number ∷ numbers)). sure numbers (λ k there. within k (among_later k e.number numbers there)) e.name left n (within n held) in
        subst (AreTakenIntoAs reads archive whole) (sym (ap (λ o. cons_option o (members_at archive numbers)) from.0.1)) ((e.name, from.1 numbers (due_pulls numbers e from.0 first due)), before)

    pub swept_in_turn : (index : List IndexEntry) → ((e : IndexEntry) → Among e index → Lifts e) → (numbers : List ℕ) → Within (swept reads archive own index numbers) → AreTakenIntoAs reads archive whole (members_at archive numbers) →
        AreTakenIntoAs reads archive whole (members_at archive (swept reads archive own index numbers))
    unfolding swept
    swept_in_turn [] are numbers within before = before
    swept_in_turn (e ∷ index) are numbers within before = grind (arith, swept_in_turn index, among_later, one_more, among_first, swept_keeps)

    pub sweeps_in_turn : (index : List IndexEntry) → ((e : IndexEntry) → Among e index → Lifts e) → (count : ℕ) (numbers : List ℕ) → Within (sweeps reads archive own index count numbers) → AreTakenIntoAs reads archive whole (members_at archive numbers) →
        AreTakenIntoAs reads archive whole (members_at archive (sweeps reads archive own index count numbers))
    unfolding sweeps
    sweeps_in_turn index are zero numbers within before = before
    sweeps_in_turn index are (suc count) numbers within before = grind (arith, sweeps_in_turn index are count (swept reads archive own index numbers) within, swept_in_turn, sweeps_keep)

  module _ (distinct : IsDistinct bytes_eq (all_listed archive)) where
    pub sweeps_take : (count : ℕ) (numbers : List ℕ) → SweepsTake reads archive own count numbers → TakesIntoAs reads archive own (members_at archive numbers)
    unfolding AreTakenIntoAs
    sweeps_take count numbers takes = record {
      in_turn = subst (λ ns. AreTakenIntoAs reads archive own (members_at archive ns)) takes.taken
          (sweeps_in_turn own (λ n. Unit {0}) (λ ns kept name left n held k m x at listed other again.
          (omega (arith, (once_by archive name distinct n k m x at listed other again)))) (index_of archive) (λ e held. (all_entries archive e held, λ ns pulls. pulls)) count [] (λ n held. tt) tt);
      ended = λ name m pulls.
          let from = listed_is archive name m pulls.listed in
          let at = at_index m archive from.0 in
          let there = none_left (index_of archive) numbers takes.ended (record { name = name; number = at.0 })
          (entry_there archive (numbers_from (length archive) 0) at.0 m name at.1 (all_there archive at.0 m at.1) from.1)
          (contains_among name (unresolved (own ++ objects_as reads (members_at archive numbers))) pulls.named) in
          pulls.new (among_contains m (members_at archive numbers) (number_taken archive numbers at.0 m there at.1));
    }
