-- The numbers of entries, and the entries in the order of their symbols.
use Rattle.std.proofs.Common.{◌≡◌, ℕ, zero, suc, ◌+◌, ◌<◌, ◌≤◌, Bool, true, false, ◌||◌, List, [], ◌∷◌, ◌++◌, bytes_eq, fold, get_or, if◌then◌else◌, length, map, refl, sym, ◌∙◌, append-nil, length-append, arith}
use Rattle.std.specs.declared.cmp.Ordering.{Ordering}
use Rattle.std.specs.declared.cmp.Ordering.TheVariants.{Less, Equal, Greater}
use Rattle.std.specs.Ordering.{is_eq, match_ordering, nat_cmp}
use Rattle.std.specs.Cmp.Lexicographic.{slice_cmp}
use Rattle.std.specs.BTreeMap.{insert_entry}
use Rattle.std.proofs.lemmas.Bool.{true≢false}
use Rattle.std.proofs.lemmas.Grind.{flat_map-append}
use Rattle.std.proofs.lemmas.List.Sums.{fold_push}
use Rattle.std.proofs.lemmas.Map.Text.{is_eq-slice_cmp}
use Rattle.implib.specs.Members.MemberSpec.{MemberView}
use Rattle.implib_archive.specs.Archive.{entries_from, entries_of, is_listed, sorted_entries, strings_of, with_first}
use Rattle.implib_archive.specs.declared.kind.Kind.{Kind}
use Rattle.implib_archive.specs.declared.kind.Kind.TheVariants.{Coff, Gnu}

-- a fact of the number of each entry
abbrev pub Each : (ℕ → Type 0) → List (List ℕ × ℕ) → Type 0
Each P [] = Unit {0}
Each P (e ∷ entries) = P e.1 × Each P entries

pub all_from_each : (P : ℕ → Type 0) (entries : List (List ℕ × ℕ)) → Each P entries → (k : ℕ) (d : List ℕ × ℕ) → k < length entries → P (get_or entries k d).1
all_from_each P [] each k d h = absurd (omega (arith, h))
all_from_each P (e ∷ entries) each zero d h = each.0
all_from_each P (e ∷ entries) each (suc k) d h = let w : k < length entries = omega (arith, h) in all_from_each P entries each.1 k d w

each_both : (P : ℕ → Type 0) (xs ys : List (List ℕ × ℕ)) → Each P xs → Each P ys → Each P (xs ++ ys)
each_both P [] ys a b = b
each_both P (x ∷ xs) ys a b = (a.0, each_both P xs ys a.1 b)

each_symbol : (P : ℕ → Type 0) (number : ℕ) (symbols : List (List ℕ)) → P number → Each P (map (λ symbol. (symbol, number)) symbols)
each_symbol P number [] p = tt
each_symbol P number (s ∷ symbols) p = (p, each_symbol P number symbols p)

each_from : (n number : ℕ) (members : List MemberView) → 0 < number → number + length members ≤ n + 1 → Each (λ k. (0 < k) × (k ≤ n)) (entries_from number members)
unfolding entries_from
each_from n number [] some within = tt
each_from n number (m ∷ members) some within =
    let low : number ≤ n = omega (arith, within) in
    each_both (λ k. (0 < k) × (k ≤ n)) (map (λ symbol. (symbol, number)) m.symbols) (entries_from (number + 1) members)
    (each_symbol (λ k. (0 < k) × (k ≤ n)) number m.symbols (some, low)) (each_from n (number + 1) members (omega arith) (omega (arith, within)))

each_first : (P : ℕ → Type 0) (b : Bool) (entries : List (List ℕ × ℕ)) (e : List ℕ × ℕ) → Each P entries → P e.1 → Each P (if b then entries else entries ++ e ∷ [])
each_first P true entries e each p = each
each_first P false entries e each p = each_both P entries (e ∷ []) each (p, tt)

each_firsts : (P : ℕ → Type 0) (found entries : List (List ℕ × ℕ)) → Each P found → Each P entries → Each P (fold with_first found entries)
unfolding with_first
each_firsts P found [] each all = each
each_firsts P found (e ∷ entries) each all = each_firsts P (with_first found e) entries (each_first P (is_listed found e.0) found e each all.0) all.1

-- the numbers of the index are those of members
pub each_entry : (kind : Kind) (members : List MemberView) → Each (λ k. (0 < k) × (k ≤ length members)) (entries_of kind members)
unfolding entries_of
each_entry Gnu members = each_from (length members) 1 members (omega arith) (omega arith)
each_entry Coff members = each_firsts (λ k. (0 < k) × (k ≤ length members)) [] (entries_from 1 members) tt (each_from (length members) 1 members (omega arith) (omega arith))

module _ (P : ℕ → Type 0) (k : List ℕ) (v : ℕ) (p : P v) where
  each_ordered : (o : Ordering) (e : List ℕ × ℕ) (entries : List (List ℕ × ℕ)) → P e.1 → Each P entries → Each P (insert_entry (slice_cmp nat_cmp) entries k v)
      → Each P (match_ordering o ((k, v) ∷ e ∷ entries) ((e.0, v) ∷ entries) (e ∷ insert_entry (slice_cmp nat_cmp) entries k v))
  each_ordered Less e entries q each rest = (p, (q, each))
  each_ordered Equal e entries q each rest = (p, each)
  each_ordered Greater e entries q each rest = (q, rest)

  each_inserted : (entries : List (List ℕ × ℕ)) → Each P entries → Each P (insert_entry (slice_cmp nat_cmp) entries k v)
  each_inserted [] each = (p, tt)
  each_inserted (e ∷ entries) each = each_ordered (slice_cmp nat_cmp k e.0) e entries each.0 each.1 (each_inserted entries each.1)

each_folded : (P : ℕ → Type 0) (sorted entries : List (List ℕ × ℕ)) → Each P sorted → Each P entries → Each P (fold (λ s e. insert_entry (slice_cmp nat_cmp) s e.0 e.1) sorted entries)
each_folded P sorted [] each all = each
each_folded P sorted (e ∷ entries) each all = grind (arith, each_folded P (insert_entry (slice_cmp nat_cmp) sorted e.0 e.1) entries (each_inserted P e.0 e.1 all.0 sorted each) all.1, each_inserted)

-- a fact of each number holds of the sorted entries too
pub each_sorted : (P : ℕ → Type 0) (entries : List (List ℕ × ℕ)) → Each P entries → Each P (sorted_entries entries)
unfolding sorted_entries
each_sorted P entries each = each_folded P [] entries tt each

pub each_weaker : (P Q : ℕ → Type 0) → ((n : ℕ) → P n → Q n) → (entries : List (List ℕ × ℕ)) → Each P entries → Each Q entries
each_weaker P Q f [] each = tt
each_weaker P Q f (e ∷ entries) each = (f e.1 each.0, each_weaker P Q f entries each.1)

-- Sorting the first entry of each symbol keeps their number and the size of their strings.

-- as many entries, with the same symbols
record AreAsMany (xs ys : List (List ℕ × ℕ)) : Type 0 where
  count : length xs ≡ length ys
  strings : length (strings_of xs) ≡ length (strings_of ys)
  listed : (symbol : List ℕ) → is_listed xs symbol ≡ is_listed ys symbol

strings-cons : (e : List ℕ × ℕ) (entries : List (List ℕ × ℕ)) → length (strings_of (e ∷ entries)) ≡ length e.0 + 1 + length (strings_of entries)
unfolding strings_of
strings-cons e entries = omega (arith, length-append (e.0 ++ 0 ∷ []) (strings_of entries), length-append e.0 (0 ∷ []))

or_swap : (a b c : Bool) → (a || (b || c)) ≡ (b || (a || c))
or_swap true true c = refl
or_swap true false c = refl
or_swap false true c = refl
or_swap false false c = refl

or_false : (a b : Bool) → (a || b) ≡ false → (a ≡ false) × (b ≡ false)
or_false true b h = absurd (true≢false h)
or_false false b h = (refl, h)

module _ (k : List ℕ) (v : ℕ) where
  new_ordered : (o : Ordering) (e : List ℕ × ℕ) (entries : List (List ℕ × ℕ)) → is_eq o ≡ false → AreAsMany (insert_entry (slice_cmp nat_cmp) entries k v) ((k, v) ∷ entries)
      → AreAsMany (match_ordering o ((k, v) ∷ e ∷ entries) ((e.0, v) ∷ entries) (e ∷ insert_entry (slice_cmp nat_cmp) entries k v)) ((k, v) ∷ e ∷ entries)
  new_ordered Less e entries other rest = record { count = refl; strings = refl; listed = λ s. refl }
  new_ordered Equal e entries other rest = absurd (true≢false other)
  new_ordered Greater e entries other rest = grind (arith, strings-cons, or_swap)

  new_inserted : (entries : List (List ℕ × ℕ)) → is_listed entries k ≡ false → AreAsMany (insert_entry (slice_cmp nat_cmp) entries k v) ((k, v) ∷ entries)
  new_inserted [] new = record { count = refl; strings = refl; listed = λ s. refl }
  new_inserted (e ∷ entries) new =
      let both = or_false (bytes_eq k e.0) (is_listed entries k) new in
      new_ordered (slice_cmp nat_cmp k e.0) e entries (is_eq-slice_cmp k e.0 ∙ both.0) (new_inserted entries both.1)

listed_both : (xs ys : List (List ℕ × ℕ)) (s : List ℕ) → is_listed (xs ++ ys) s ≡ (is_listed xs s || is_listed ys s)
listed_both [] ys s = refl
listed_both (x ∷ xs) ys s = grind (arith, listed_both xs ys s)

or_ends : (a b : Bool) → (a || b) ≡ (b || (a || false))
or_ends true true = refl
or_ends true false = refl
or_ends false true = refl
or_ends false false = refl

pub sorted_push : (entries : List (List ℕ × ℕ)) (e : List ℕ × ℕ) → sorted_entries (entries ++ e ∷ []) ≡ insert_entry (slice_cmp nat_cmp) (sorted_entries entries) e.0 e.1
unfolding sorted_entries
sorted_push entries e = fold_push (λ s x. insert_entry (slice_cmp nat_cmp) s x.0 x.1) [] entries e

strings-push : (entries : List (List ℕ × ℕ)) (e : List ℕ × ℕ) → length (strings_of (entries ++ e ∷ [])) ≡ length (strings_of entries) + (length e.0 + 1)
unfolding strings_of
strings-push entries e = grind (arith, flat_map-append, length-append, append-nil)

one_first : (b : Bool) (found : List (List ℕ × ℕ)) (e : List ℕ × ℕ) → is_listed found e.0 ≡ b → AreAsMany (sorted_entries found) found
    → AreAsMany (sorted_entries (if b then found else found ++ e ∷ [])) (if b then found else found ++ e ∷ [])
one_first true found e here many = many
one_first false found e new many = grind (arith, new_inserted e.0 e.1 (sorted_entries found) (many.listed e.0 ∙ new), sorted_push found e, length-append found (e ∷ []), strings-cons (e.0, e.1) (sorted_entries found), strings-push found e, or_ends')
  where
    or_ends' : (s : List ℕ) → (bytes_eq s e.0 || is_listed found s) ≡ is_listed (found ++ e ∷ []) s
    or_ends' s = or_ends (bytes_eq s e.0) (is_listed found s) ∙ sym (listed_both found (e ∷ []) s)

many_firsts : (found entries : List (List ℕ × ℕ)) → AreAsMany (sorted_entries found) found → AreAsMany (sorted_entries (fold with_first found entries)) (fold with_first found entries)
unfolding with_first
many_firsts found [] many = many
many_firsts found (e ∷ entries) many = many_firsts (with_first found e) entries (one_first (is_listed found e.0) found e refl many)

-- the entries of the COFF kind are as many when they are sorted, with strings of the same size
pub sorted_as_many : (members : List MemberView) → (length (sorted_entries (entries_of Coff members)) ≡ length (entries_of Coff members))
    × (length (strings_of (sorted_entries (entries_of Coff members))) ≡ length (strings_of (entries_of Coff members)))
unfolding entries_of sorted_entries
sorted_as_many members = grind (arith, many_firsts [] (entries_from 1 members) (record { count = refl; strings = refl; listed = λ s. refl }))
