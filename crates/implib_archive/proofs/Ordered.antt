-- Entries of distinct symbols that a sort has put in order are those in the order of their symbols.
use Rattle.std.proofs.Common.{◌≡◌, ℕ, ◌+◌, ◌-◌, ◌<◌, Bool, true, false, cond, List, [], ◌∷◌, ◌++◌, ◌&&◌, Some, append-nil, append_assoc, bytes_eq, fold, get_or, length, map, refl, sym, ap, take, ◌∙◌, arith}
use Rattle.std.specs.Prelude.{T}
use Rattle.std.specs.Borrow.{Bor}
use Rattle.std.specs.declared.cmp.Ordering.{Ordering}
use Rattle.std.specs.declared.cmp.Ordering.TheVariants.{Less, Equal, Greater}
use Rattle.std.specs.Ordering.{is_eq, is_lt, nat_cmp, ordering_reverse, ordering_then}
use Rattle.std.specs.Cmp.Lexicographic.{slice_cmp}
use Rattle.std.specs.FinMap.Entries.{below_all, find, is_sorted, same_entries}
use Rattle.std.specs.List.{AllByRecursion}
use Rattle.std.specs.List.Sorted.{IsPermutation, IsSorted, IsStrictlySortedBy}
use Rattle.std.specs.Map.{lookup}
use Rattle.std.proofs.lemmas.Bool.{true≢false}
use Rattle.std.proofs.lemmas.Cmp.{nat_list_cmp_total, nat_list_eq_equiv}
use Rattle.std.proofs.lemmas.List.{get_or-map, length-map, take_more}
use Rattle.std.proofs.lemmas.List.Sorted.{IsPermutation-map, IsPermutation-middle, IsPermutation-push_more, IsPermutation-sym}
use Rattle.std.proofs.lemmas.Map.Keys.{IsDistinct-IsPermutation, IsDistinct-from_sorted, apart_from_distinct, sorted_from_all_adjacent}
use Rattle.std.proofs.lemmas.Map.Text.{is_eq-slice_cmp}
use Rattle.std.proofs.lemmas.Slice.Eq.{bytes_eq-Decides}
use Rattle.indexmap.proofs.MapLemmas.{lookup_permutation}
use Rattle.implib.proofs.Formats.Defaults.{no_text}
use Rattle.implib_archive.specs.Archive.{sorted_entries, with_first}
use Rattle.implib_archive.specs.Pushed.{AreDistinct, entry_cmp, shown}
use Rattle.implib_archive.proofs.Distinct.{distinct_all_first, distinct_firsts}
use Rattle.implib_archive.proofs.Lookups.{entries_rise, sorted_lookup}

same_order : (x y : List ℕ) → slice_cmp nat_cmp x y ≡ Equal → x ≡ y
same_order x y is = (bytes_eq-Decides x y).0 (sym (is_eq-slice_cmp x y) ∙ ap is_eq is)

-- a symbol that differs from the one after it, which is not below it, is below that
below_next : (x y : List ℕ) (o more : Ordering) → slice_cmp nat_cmp y x ≡ o → is_lt (ordering_then o more) ≡ false → bytes_eq x y ≡ false → slice_cmp nat_cmp x y ≡ Less
below_next x y Less more is up other = absurd (true≢false up)
below_next x y Equal more is up other = absurd (true≢false (sym ((bytes_eq-Decides x y).1 (sym (same_order y x is))) ∙ other))
below_next x y Greater more is up other = nat_list_cmp_total.antisymm x y ∙ ap ordering_reverse is

-- the search of std's maps
found_alike : (q : List ℕ) (entries : List (List ℕ × ℕ)) → find (slice_cmp nat_cmp) q entries ≡ lookup (bytes_eq q) entries
found_alike q [] = refl
found_alike q (e ∷ entries) = ap (λ b. cond b (Some e.1) (find (slice_cmp nat_cmp) q entries)) (is_eq-slice_cmp q e.0) ∙ ap (λ r. cond (bytes_eq q e.0) (Some e.1) r) (found_alike q entries)

both_hold : (a b : Bool) → T a → T b → T (a && b)
both_hold true b p q = q
both_hold false b p q = p

is_less : (o : Ordering) → o ≡ Less → T (is_lt o)
is_less Less is = tt
is_less Equal is = absurd (cc)
is_less Greater is = absurd (cc)

below_rest : (x : List ℕ) (entries : List (List ℕ × ℕ)) → AllByRecursion (λ y. slice_cmp nat_cmp x y ≡ Less) (map (λ e. e.0) entries) → T (below_all (slice_cmp nat_cmp) x entries)
below_rest x [] all = tt
below_rest x (e ∷ entries) all = both_hold _ _ (is_less (slice_cmp nat_cmp x e.0) all.0) (below_rest x entries all.1)

rises_tested : (entries : List (List ℕ × ℕ)) → IsStrictlySortedBy (slice_cmp nat_cmp) (map (λ e. e.0) entries) → T (is_sorted (slice_cmp nat_cmp) entries)
unfolding IsStrictlySortedBy
rises_tested [] rises = tt
rises_tested (e ∷ entries) rises = both_hold _ _ (below_rest e.0 entries rises.0) (rises_tested entries rises.1)

-- entries whose symbols rise are those in order, where the same is found among them
pub in_order : (entries sorted : List (List ℕ × ℕ)) → AreDistinct entries → IsStrictlySortedBy (slice_cmp nat_cmp) (map (λ e. e.0) sorted)
    → ((q : List ℕ) → lookup (bytes_eq q) sorted ≡ lookup (bytes_eq q) entries) → sorted ≡ sorted_entries entries
in_order entries sorted distinct rises same =
    same_entries (slice_cmp nat_cmp) nat_list_cmp_total same_order sorted (sorted_entries entries) (rises_tested sorted rises) (rises_tested (sorted_entries entries) (entries_rise entries))
    (λ q. found_alike q sorted ∙ (same q ∙ (sym (sorted_lookup entries q distinct) ∙ sym (found_alike q (sorted_entries entries)))))

-- Entries that a sort has put in order.
module _ (sorted : List (Bor (List ℕ) × ℕ)) (up : IsSorted entry_cmp sorted) where
  abbrev pub no_entry : Bor (List ℕ) × ℕ
  no_entry = (no_text, 0)

  abbrev symbols : List (List ℕ)
  symbols = map (λ e. e.0) (shown sorted)

  count : length symbols ≡ length sorted
  count = length-map (shown sorted) (λ e. e.0) ∙ length-map sorted (λ e. (e.0.now, e.1))

  symbol_at : (k : ℕ) → k < length sorted → get_or symbols k [] ≡ (get_or sorted k no_entry).0.now
  symbol_at k within =
      let same : length (shown sorted) ≡ length sorted = length-map sorted (λ e. (e.0.now, e.1)) in
      let inside : k < length (shown sorted) = omega (arith, within, same) in
      get_or-map (λ (e : List ℕ × ℕ). e.0) (shown sorted) k ([], 0) [] inside
      ∙ ap (λ (e : List ℕ × ℕ). e.0) (get_or-map (λ (e : Bor (List ℕ) × ℕ). (e.0.now, e.1)) sorted k no_entry ([], 0) within)

  -- a symbol differs from the one after it
  abbrev Apart : ℕ → Type 0
  Apart k = bytes_eq (get_or symbols k []) (get_or symbols (k + 1) []) ≡ false

  symbols_rise : ((k : ℕ) → k + 1 < length symbols → Apart k) → IsStrictlySortedBy (slice_cmp nat_cmp) symbols
  symbols_rise apart = sorted_from_all_adjacent nat_list_cmp_total symbols [] next
    where
      next : (k : ℕ) → k + 1 < length symbols → slice_cmp nat_cmp (get_or symbols k []) (get_or symbols (k + 1) []) ≡ Less
      next k within = grind (arith, count, symbol_at, below_next, apart)

  -- entries, none of which has the symbol of the next, have distinct symbols
  pub distinct_neighbours : ((k : ℕ) → 0 < k → k < length sorted → bytes_eq (get_or sorted (k - 1) no_entry).0.now (get_or sorted k no_entry).0.now ≡ false) → AreDistinct (shown sorted)
  distinct_neighbours other = grind (arith, is_eq-slice_cmp, IsDistinct-from_sorted, symbols_rise, apart)
    where
      apart : (k : ℕ) → k + 1 < length symbols → Apart k
      apart k within = grind (arith, count, symbol_at)

  -- distinct symbols differ from their neighbours
  pub neighbours_differ : (k : ℕ) → 0 < k → k < length sorted → AreDistinct (shown sorted) → bytes_eq (get_or sorted (k - 1) no_entry).0.now (get_or sorted k no_entry).0.now ≡ false
  neighbours_differ k some within distinct =
      let low : k - 1 < k = omega arith in
      let inside : k < length symbols = omega (arith, within, count) in
      ap (λ s. bytes_eq s (get_or sorted k no_entry).0.now) (sym (symbol_at (k - 1) (omega arith)))
      ∙ (ap (λ s. bytes_eq (get_or symbols (k - 1) []) s) (sym (symbol_at k within)) ∙ apart_from_distinct bytes_eq symbols (k - 1) k [] distinct low inside)

  distinct_rise : AreDistinct (shown sorted) → IsStrictlySortedBy (slice_cmp nat_cmp) symbols
  distinct_rise distinct = symbols_rise (λ k within. apart_from_distinct bytes_eq symbols k (k + 1) [] distinct (omega arith) within)

-- a permutation has distinct symbols where its entries have
pub distinct_moved : (xs ys : List (Bor (List ℕ) × ℕ)) → IsPermutation xs ys → AreDistinct (shown xs) → AreDistinct (shown ys)
distinct_moved xs ys moves distinct =
    IsDistinct-IsPermutation bytes_eq nat_list_eq_equiv.symm (map (λ e. e.0) (shown xs)) (map (λ e. e.0) (shown ys))
    (IsPermutation-map (λ e. e.0) (shown xs) (shown ys) (IsPermutation-map (λ e. (e.0.now, e.1)) xs ys moves)) distinct

-- entries with distinct symbols, sorted
pub sorted_in_order : (entries sorted : List (Bor (List ℕ) × ℕ)) → AreDistinct (shown entries) → IsPermutation entries sorted → IsSorted entry_cmp sorted
    → shown sorted ≡ sorted_entries (shown entries)
sorted_in_order entries sorted distinct moves up =
    let others = distinct_moved entries sorted moves distinct in
    in_order (shown entries) (shown sorted) distinct (distinct_rise sorted up others)
    (λ q. lookup_permutation nat_list_eq_equiv (shown entries) (shown sorted) (IsPermutation-map (λ e. (e.0.now, e.1)) entries sorted moves) others (bytes_eq q) (nat_list_eq_equiv.congr q))

-- and the other way round
pub distinct_moved_back : (xs ys : List (Bor (List ℕ) × ℕ)) → IsPermutation xs ys → AreDistinct (shown ys) → AreDistinct (shown xs)
distinct_moved_back xs ys moves distinct = distinct_moved ys xs (IsPermutation-sym xs ys moves) distinct

-- where sorted entries have distinct symbols, they are the first ones in order
pub all_firsts_sorted : (entries sorted : List (Bor (List ℕ) × ℕ)) → IsPermutation entries sorted → IsSorted entry_cmp sorted → AreDistinct (shown sorted)
    → shown sorted ≡ sorted_entries (fold with_first [] (shown entries))
all_firsts_sorted entries sorted moves up distinct =
    let back = distinct_moved_back entries sorted moves distinct in
    sorted_in_order entries sorted back moves up ∙ ap sorted_entries (distinct_all_first (shown entries) back)

-- the first entries, sorted
pub firsts_sorted : (entries : List (List ℕ × ℕ)) (firsts sorted : List (Bor (List ℕ) × ℕ)) → shown firsts ≡ fold with_first [] entries → IsPermutation firsts sorted
    → IsSorted entry_cmp sorted → shown sorted ≡ sorted_entries (fold with_first [] entries)
firsts_sorted entries firsts sorted is moves up = grind (arith, sorted_in_order, distinct_firsts)

-- An element that goes to the end of one of four parts.
module _ {X : Type 0} (xs a b c e : List X) (i : ℕ) (d : X) (within : i < length xs) (moves : IsPermutation (take i xs) (a ++ (b ++ (c ++ e)))) where
  abbrev x : X
  x = get_or xs i d

  one_more : (front back : List X) → a ++ (b ++ (c ++ e)) ≡ front ++ back → IsPermutation (take (i + 1) xs) (front ++ x ∷ back)
  one_more front back same = grind (arith, IsPermutation-sym (front ++ x ∷ back) (x ∷ (front ++ back)) (IsPermutation-middle front x back), IsPermutation-middle front x back, take_more xs i d within, IsPermutation-push_more)

  pub more_in_first : {a' b' c' e' : List X} → a' ≡ a ++ x ∷ [] → b' ≡ b → c' ≡ c → e' ≡ e → IsPermutation (take (i + 1) xs) (a' ++ (b' ++ (c' ++ e')))
  more_in_first p q r s = grind (arith, append_assoc, one_more)

  pub more_in_second : {a' b' c' e' : List X} → a' ≡ a → b' ≡ b ++ x ∷ [] → c' ≡ c → e' ≡ e → IsPermutation (take (i + 1) xs) (a' ++ (b' ++ (c' ++ e')))
  more_in_second p q r s = grind (arith, append_assoc b (x ∷ []) (c ++ e), append_assoc a b (x ∷ (c ++ e)), one_more (a ++ b) (c ++ e) (sym (append_assoc a b (c ++ e))), append_assoc a b (c ++ e))

  pub more_in_third : {a' b' c' e' : List X} → a' ≡ a → b' ≡ b → c' ≡ c ++ x ∷ [] → e' ≡ e → IsPermutation (take (i + 1) xs) (a' ++ (b' ++ (c' ++ e')))
  more_in_third p q r s =
      rw (p, q, r, s, append_assoc c (x ∷ []) e, sym (append_assoc b c (x ∷ e)), sym (append_assoc a (b ++ c) (x ∷ e)))
      (one_more (a ++ (b ++ c)) e (ap (λ t. a ++ t) (sym (append_assoc b c e)) ∙ sym (append_assoc a (b ++ c) e)))

  pub more_in_fourth : {a' b' c' e' : List X} → a' ≡ a → b' ≡ b → c' ≡ c → e' ≡ e ++ x ∷ [] → IsPermutation (take (i + 1) xs) (a' ++ (b' ++ (c' ++ e')))
  more_in_fourth p q r s = grind (arith, append_assoc, one_more, append-nil)
