-- Looking symbols up among entries.
use Rattle.std.proofs.Common.{◌≡◌, ℕ, ◌+◌, ◌-◌, Bool, true, false, cond, List, [], ◌∷◌, ◌++◌, Option, Some, None, bytes_eq, fold, get_or, if◌then◌else◌, is_some, length, map, refl, sym, ap, ◌∙◌, append_assoc, length-append, arith}
use Rattle.std.specs.declared.cmp.Ordering.{Ordering}
use Rattle.std.specs.declared.cmp.Ordering.TheVariants.{Less, Equal, Greater}
use Rattle.std.specs.BTreeMap.{insert_entry}
use Rattle.std.specs.Cmp.Lexicographic.{slice_cmp}
use Rattle.std.specs.List.{AllByRecursion, IsDistinct, list_any}
use Rattle.std.specs.List.Sorted.{IsStrictlySortedBy}
use Rattle.std.specs.Map.{lookup}
use Rattle.std.specs.Option.{option_map}
use Rattle.std.specs.Ordering.{is_eq, match_ordering, nat_cmp, ordering_reverse}
use Rattle.std.proofs.lemmas.Bool.{true≢false}
use Rattle.std.proofs.lemmas.Cmp.{nat_list_cmp_total, nat_list_eq_equiv}
use Rattle.std.proofs.lemmas.Map.{lookup-none}
use Rattle.std.proofs.lemmas.Map.Entries.{none_past_head}
use Rattle.std.proofs.lemmas.Map.Text.{is_eq-slice_cmp}
use Rattle.std.proofs.lemmas.Slice.Eq.{bytes_eq-Decides}
use Rattle.implib.specs.Members.MemberSpec.{MemberView}
use Rattle.implib_archive.specs.Archive.{entries_from, entries_of, is_listed, place_of, sorted_entries, with_first}
use Rattle.implib_archive.specs.Leads.{first_lister, lists}
use Rattle.implib_archive.specs.Pushed.{AreDistinct}
use Rattle.implib_archive.specs.declared.kind.Kind.{Kind}
use Rattle.implib_archive.specs.declared.kind.Kind.TheVariants.{Coff, Gnu}

-- One list after another.

-- the first of two that is there
abbrev or_else : {X : Type 0} → Option X → Option X → Option X
or_else (Some x) other = Some x
or_else None other = other

lookup_both : (s : List ℕ) (xs ys : List (List ℕ × ℕ)) → lookup (bytes_eq s) (xs ++ ys) ≡ or_else (lookup (bytes_eq s) xs) (lookup (bytes_eq s) ys)
lookup_both s [] ys = refl
lookup_both s (x ∷ xs) ys = grind (arith, lookup_both s xs ys)

pub lookup_mapped : (s : List ℕ) (g : ℕ → ℕ) (entries : List (List ℕ × ℕ)) → lookup (bytes_eq s) (map (λ e. (e.0, g e.1)) entries) ≡ option_map g (lookup (bytes_eq s) entries)
lookup_mapped s g [] = refl
lookup_mapped s g (e ∷ entries) = grind (arith, lookup_mapped s g entries)

lookup_listed : (s : List ℕ) (entries : List (List ℕ × ℕ)) → is_some (lookup (bytes_eq s) entries) ≡ is_listed entries s
lookup_listed s [] = refl
lookup_listed s (e ∷ entries) = grind (arith, lookup_listed s entries, is_some)

-- All entries of members.

one_member : (s : List ℕ) (number : ℕ) (symbols : List (List ℕ)) (rest : List (List ℕ × ℕ))
    → lookup (bytes_eq s) (map (λ symbol. (symbol, number)) symbols ++ rest) ≡ (if list_any (bytes_eq s) symbols then Some number else lookup (bytes_eq s) rest)
one_member s number [] rest = refl
one_member s number (x ∷ symbols) rest = grind (arith, one_member s number symbols rest)

place_next : (before places : List ℕ) (p : ℕ) → place_of (before ++ p ∷ places) (length before + 1) ≡ p
unfolding place_of
place_next before places p = let n : length before + 1 - 1 ≡ length before = omega arith in ap (λ k. get_or (before ++ p ∷ places) k 0) n ∙ at_end before places p
  where
    at_end : (before places : List ℕ) (p : ℕ) → get_or (before ++ p ∷ places) (length before) 0 ≡ p
    at_end [] places p = refl
    at_end (x ∷ before) places p = at_end before places p

-- the header that an entry leads to is that of the first member that lists the symbol
entries_lead : (s : List ℕ) (before places : List ℕ) (members : List MemberView) → length places ≡ length members
    → option_map (place_of (before ++ places)) (lookup (bytes_eq s) (entries_from (length before + 1) members)) ≡ option_map (λ f. f.0) (first_lister places members s)
unfolding entries_from
entries_lead s before [] [] same = refl
entries_lead s before [] (m ∷ members) same = absurd (omega (arith, same))
entries_lead s before (p ∷ places) [] same = absurd (omega (arith, same))
entries_lead s before (p ∷ places) (m ∷ members) same =
    let rest = entries_from (length before + 1 + 1) members in
    let shorter : length places ≡ length members = omega (arith, same) in
    let more = length-append before (p ∷ []) in
    let later = ap (λ t. option_map (place_of t) (lookup (bytes_eq s) rest)) (sym (append_assoc before (p ∷ []) places))
    ∙ (ap (λ n. option_map (place_of ((before ++ p ∷ []) ++ places)) (lookup (bytes_eq s) (entries_from (n + 1) members))) (sym more) ∙ entries_lead s (before ++ p ∷ []) places members shorter) in
    ap (option_map (place_of (before ++ p ∷ places))) (one_member s (length before + 1) m.symbols rest) ∙ by_test (lists s m) later
  where
    by_test : (b : Bool) → option_map (place_of (before ++ p ∷ places)) (lookup (bytes_eq s) (entries_from (length before + 1 + 1) members)) ≡ option_map (λ f. f.0) (first_lister places members s)
        → option_map (place_of (before ++ p ∷ places)) (if b then Some (length before + 1) else lookup (bytes_eq s) (entries_from (length before + 1 + 1) members))
        ≡ option_map (λ f. f.0) (if b then Some (p, m) else first_lister places members s)
    by_test true later = ap (λ n. Some n) (place_next before places p)
    by_test false later = later

-- The first entry of each symbol.

same_some : {X : Type 0} (r a b : Option X) → is_some r ≡ true → or_else r a ≡ or_else r b
same_some (Some x) a b some = refl
same_some None a b some = absurd (true≢false (sym some))

module _ (s : List ℕ) (e : List ℕ × ℕ) (found entries : List (List ℕ × ℕ)) where
  listed_already : (b : Bool) → bytes_eq s e.0 ≡ b → is_listed found e.0 ≡ true
      → or_else (lookup (bytes_eq s) found) (lookup (bytes_eq s) entries) ≡ or_else (lookup (bytes_eq s) found) (cond b (Some e.1) (lookup (bytes_eq s) entries))
  listed_already true same here = grind (arith, bytes_eq-Decides, same_some, lookup_listed)
  listed_already false other here = refl

  listed_last : (r : Option ℕ) (b : Bool) → or_else (or_else r (cond b (Some e.1) None)) (lookup (bytes_eq s) entries) ≡ or_else r (cond b (Some e.1) (lookup (bytes_eq s) entries))
  listed_last (Some n) b = refl
  listed_last None true = refl
  listed_last None false = refl

  first_step : (b : Bool) → is_listed found e.0 ≡ b
      → or_else (lookup (bytes_eq s) (if b then found else found ++ e ∷ [])) (lookup (bytes_eq s) entries) ≡ or_else (lookup (bytes_eq s) found) (lookup (bytes_eq s) (e ∷ entries))
  first_step true here = listed_already (bytes_eq s e.0) refl here
  first_step false new = grind (arith, lookup_both, listed_last)

firsts_lookup : (s : List ℕ) (found entries : List (List ℕ × ℕ)) → lookup (bytes_eq s) (fold with_first found entries) ≡ or_else (lookup (bytes_eq s) found) (lookup (bytes_eq s) entries)
unfolding with_first
firsts_lookup s found [] = grind arith
firsts_lookup s found (e ∷ entries) = firsts_lookup s (with_first found e) entries ∙ first_step s e found entries (is_listed found e.0) refl

-- a search of the index is one through all entries
entries_lookup : (kind : Kind) (members : List MemberView) (s : List ℕ) → lookup (bytes_eq s) (entries_of kind members) ≡ lookup (bytes_eq s) (entries_from 1 members)
unfolding entries_of
entries_lookup Gnu members s = refl
entries_lookup Coff members s = firsts_lookup s [] (entries_from 1 members)

-- each text leads to the header of the first member that lists it
pub index_lookup : (kind : Kind) (members : List MemberView) (places : List ℕ) (s : List ℕ) → length places ≡ length members
    → lookup (bytes_eq s) (map (λ e. (e.0, place_of places e.1)) (entries_of kind members)) ≡ option_map (λ f. f.0) (first_lister places members s)
index_lookup kind members places s same = grind (arith, lookup_mapped s (place_of places) (entries_of kind members), entries_lookup kind members s, entries_lead s [] places members same)

-- a text leads somewhere exactly if a member lists it
pub listed_somewhere : (places : List ℕ) (members : List MemberView) (s : List ℕ) → length places ≡ length members → is_some (option_map (λ f. f.0) (first_lister places members s)) ≡ list_any (lists s) members
listed_somewhere [] [] s same = refl
listed_somewhere [] (m ∷ members) s same = absurd (omega (arith, same))
listed_somewhere (p ∷ places) [] s same = absurd (omega (arith, same))
listed_somewhere (p ∷ places) (m ∷ members) s same = grind (arith, listed_somewhere places members s (omega (arith, same)), is_some)

-- Entries in order.

module _ (k : List ℕ) (v : ℕ) where
  both_same : (s : List ℕ) (e : List ℕ × ℕ) (rest : Option ℕ) (a b : Bool) → bytes_eq s e.0 ≡ a → bytes_eq s k ≡ b → bytes_eq k e.0 ≡ false
      → cond a (Some e.1) (cond b (Some v) rest) ≡ cond b (Some v) (cond a (Some e.1) rest)
  both_same s e rest true true x y other = grind (arith, bytes_eq-Decides, true≢false)
  both_same s e rest true false x y other = refl
  both_same s e rest false b x y other = refl

  by_order : (s : List ℕ) (o : Ordering) (e : List ℕ × ℕ) (entries : List (List ℕ × ℕ)) → is_eq o ≡ bytes_eq k e.0
      → lookup (bytes_eq s) (insert_entry (slice_cmp nat_cmp) entries k v) ≡ cond (bytes_eq s k) (Some v) (lookup (bytes_eq s) entries)
      → lookup (bytes_eq s) (match_ordering o ((k, v) ∷ e ∷ entries) ((e.0, v) ∷ entries) (e ∷ insert_entry (slice_cmp nat_cmp) entries k v)) ≡ cond (bytes_eq s k) (Some v) (lookup (bytes_eq s) (e ∷ entries))
  by_order s Less e entries is rest = refl
  by_order s Equal e entries is rest = grind (arith, bytes_eq-Decides)
  by_order s Greater e entries is rest = grind (arith, both_same)

  inserted_lookup : (s : List ℕ) (entries : List (List ℕ × ℕ)) → lookup (bytes_eq s) (insert_entry (slice_cmp nat_cmp) entries k v) ≡ cond (bytes_eq s k) (Some v) (lookup (bytes_eq s) entries)
  inserted_lookup s [] = refl
  inserted_lookup s (e ∷ entries) = by_order s (slice_cmp nat_cmp k e.0) e entries (is_eq-slice_cmp k e.0) (inserted_lookup s entries)

  keys_above : (x : List ℕ) (entries : List (List ℕ × ℕ)) → slice_cmp nat_cmp x k ≡ Less → AllByRecursion (λ y. slice_cmp nat_cmp x y ≡ Less) (map (λ e. e.0) entries)
      → AllByRecursion (λ y. slice_cmp nat_cmp x y ≡ Less) (map (λ e. e.0) (insert_entry (slice_cmp nat_cmp) entries k v))
  keys_above x [] new all = (new, tt)
  keys_above x (e ∷ entries) new all = grind (arith, keys_above x entries new all.1)

  above_all : (x : List ℕ) (ys : List (List ℕ)) → slice_cmp nat_cmp k x ≡ Less → AllByRecursion (λ y. slice_cmp nat_cmp x y ≡ Less) ys → AllByRecursion (λ y. slice_cmp nat_cmp k y ≡ Less) ys
  above_all x [] below all = tt
  above_all x (y ∷ ys) below all = (nat_list_cmp_total.trans k x y below all.0, above_all x ys below all.1)

  inserted_rises : (entries : List (List ℕ × ℕ)) → IsStrictlySortedBy (slice_cmp nat_cmp) (map (λ e. e.0) entries) → IsStrictlySortedBy (slice_cmp nat_cmp) (map (λ e. e.0) (insert_entry (slice_cmp nat_cmp) entries k v))
  unfolding IsStrictlySortedBy
  inserted_rises [] rises = (tt, tt)
  inserted_rises (e ∷ entries) rises = by_place (slice_cmp nat_cmp k e.0) refl (inserted_rises entries rises.1)
    where
      by_place : (o : Ordering) → slice_cmp nat_cmp k e.0 ≡ o → IsStrictlySortedBy (slice_cmp nat_cmp) (map (λ e. e.0) (insert_entry (slice_cmp nat_cmp) entries k v))
          → IsStrictlySortedBy (slice_cmp nat_cmp) (map (λ e. e.0) (match_ordering o ((k, v) ∷ e ∷ entries) ((e.0, v) ∷ entries) (e ∷ insert_entry (slice_cmp nat_cmp) entries k v)))
      by_place Less is rest = ((is, above_all e.0 (map (λ e. e.0) entries) is rises.0), rises)
      by_place Equal is rest = rises
      by_place Greater is rest = (keys_above e.0 entries (nat_list_cmp_total.antisymm e.0 k ∙ ap ordering_reverse is) rises.0, rest)

-- what is found among entries that were inserted one after another
inserted_all : (sorted entries : List (List ℕ × ℕ)) (s : List ℕ) → AreDistinct entries
    → lookup (bytes_eq s) (fold (λ x e. insert_entry (slice_cmp nat_cmp) x e.0 e.1) sorted entries) ≡ or_else (lookup (bytes_eq s) entries) (lookup (bytes_eq s) sorted)
unfolding IsDistinct
inserted_all sorted [] s distinct = refl
inserted_all sorted (e ∷ entries) s distinct = grind (arith, inserted_all (insert_entry (slice_cmp nat_cmp) sorted e.0 e.1) entries s distinct.1, inserted_lookup, by_test, alone)
  where
    by_test : (b : Bool) (r other : Option ℕ) → (b ≡ true → r ≡ None) → or_else r (cond b (Some e.1) other) ≡ or_else (cond b (Some e.1) r) other
    by_test true (Some n) other none = absurd (let no : Some n ≡ None = none refl in cc)
    by_test true None other none = refl
    by_test false r other none = refl

    alone : bytes_eq s e.0 ≡ true → lookup (bytes_eq s) entries ≡ None
    alone same = lookup-none (bytes_eq s) entries (none_past_head nat_list_eq_equiv s e entries distinct same)

or_none : (r : Option ℕ) → or_else r None ≡ r
or_none (Some n) = refl
or_none None = refl

-- sorting entries of distinct symbols does not change what is found
pub sorted_lookup : (entries : List (List ℕ × ℕ)) (s : List ℕ) → AreDistinct entries → lookup (bytes_eq s) (sorted_entries entries) ≡ lookup (bytes_eq s) entries
unfolding sorted_entries
sorted_lookup entries s distinct = inserted_all [] entries s distinct ∙ or_none (lookup (bytes_eq s) entries)

sorted_rise : (sorted entries : List (List ℕ × ℕ)) → IsStrictlySortedBy (slice_cmp nat_cmp) (map (λ e. e.0) sorted)
    → IsStrictlySortedBy (slice_cmp nat_cmp) (map (λ e. e.0) (fold (λ sorted e. insert_entry (slice_cmp nat_cmp) sorted e.0 e.1) sorted entries))
sorted_rise sorted [] rises = rises
sorted_rise sorted (e ∷ entries) rises = sorted_rise (insert_entry (slice_cmp nat_cmp) sorted e.0 e.1) entries (inserted_rises e.0 e.1 sorted rises)

-- the symbols of sorted entries rise strictly
pub entries_rise : (entries : List (List ℕ × ℕ)) → IsStrictlySortedBy (slice_cmp nat_cmp) (map (λ e. e.0) (sorted_entries entries))
unfolding sorted_entries IsStrictlySortedBy
entries_rise entries = sorted_rise [] entries tt
