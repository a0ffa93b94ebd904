-- The entries of the COFF kind have distinct symbols.
use Rattle.std.proofs.Common.{rules, arith, ◌≡◌, ℕ, Bool, true, false, ◌||◌, List, [], ◌∷◌, ◌++◌, bytes_eq, fold, if◌then◌else◌, map, refl, sym, ap, subst, ◌∙◌, append_assoc, append-nil}
use Rattle.std.specs.List.{AllByRecursion, IsDistinct, list_any}
use Rattle.std.proofs.lemmas.Cmp.{nat_list_eq_equiv}
use Rattle.std.proofs.lemmas.List.{map-append}
use Rattle.std.proofs.lemmas.Map.Keys.{IsDistinct-push}
use Rattle.implib.specs.Members.MemberSpec.{MemberView}
use Rattle.implib_archive.specs.Archive.{entries_from, entries_of, is_listed, with_first}
use Rattle.implib_archive.specs.Pushed.{AreDistinct}
use Rattle.implib_archive.specs.declared.kind.Kind.TheVariants.{Coff}
use Rattle.implib_archive.proofs.Listed.{with_first-new}

listed_symbols : (entries : List (List ℕ × ℕ)) (symbol : List ℕ) → list_any (bytes_eq symbol) (map (λ e. e.0) entries) ≡ is_listed entries symbol
listed_symbols [] symbol = refl
listed_symbols (e ∷ entries) symbol = ap (λ b. bytes_eq symbol e.0 || b) (listed_symbols entries symbol)

one_first : (b : Bool) (found : List (List ℕ × ℕ)) (e : List ℕ × ℕ) → is_listed found e.0 ≡ b → AreDistinct found → AreDistinct (if b then found else found ++ e ∷ [])
one_first true found e here distinct = distinct
one_first false found e new distinct = grind (arith, map-append, IsDistinct-push, nat_list_eq_equiv, listed_symbols)

pub firsts_distinct : (found entries : List (List ℕ × ℕ)) → AreDistinct found → AreDistinct (fold with_first found entries)
unfolding with_first
firsts_distinct found [] distinct = distinct
firsts_distinct found (e ∷ entries) distinct = firsts_distinct (with_first found e) entries (one_first (is_listed found e.0) found e refl distinct)

-- the first entry of each symbol is its only one
pub distinct_of-coff : (members : List MemberView) → AreDistinct (entries_of Coff members)
unfolding entries_of IsDistinct
distinct_of-coff members = firsts_distinct [] (entries_from 1 members) tt

pub distinct_firsts : (entries : List (List ℕ × ℕ)) → AreDistinct (fold with_first [] entries)
unfolding IsDistinct
distinct_firsts entries = firsts_distinct [] entries tt

-- a symbol is not listed among distinct ones before it
not_before : (found : List (List ℕ × ℕ)) (e : List ℕ × ℕ) (entries : List (List ℕ × ℕ)) → AreDistinct (found ++ e ∷ entries) → is_listed found e.0 ≡ false
unfolding IsDistinct
not_before [] e entries distinct = refl
not_before (f ∷ found) e entries distinct = search (rules, not_before found e entries distinct.1, other)
  where
    other : (xs : List (List ℕ × ℕ)) → AllByRecursion (λ y. bytes_eq f.0 y ≡ false) (map (λ x. x.0) (xs ++ e ∷ entries)) → bytes_eq f.0 e.0 ≡ false
    other [] all = all.0
    other (x ∷ xs) all = other xs all.1

all_first : (found entries : List (List ℕ × ℕ)) → AreDistinct (found ++ entries) → found ++ entries ≡ fold with_first found entries
all_first found [] distinct = append-nil found
all_first found (e ∷ entries) distinct =
    let whole = append_assoc found (e ∷ []) entries in
    let more = with_first-new found e (not_before found e entries distinct) in
    sym whole ∙ (ap (λ t. t ++ entries) more ∙ all_first (with_first found e) entries (subst (λ t. AreDistinct (t ++ entries)) more (subst AreDistinct (sym whole) distinct)))

-- of distinct symbols each entry is the first
pub distinct_all_first : (entries : List (List ℕ × ℕ)) → AreDistinct entries → entries ≡ fold with_first [] entries
distinct_all_first entries distinct = all_first [] entries distinct
