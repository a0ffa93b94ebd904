-- The entries of the index, in the maps and lists of the code.
use Rattle.std.proofs.Common.{◌≡◌, ℕ, ◌+◌, ◌<◌, ◌≤◌, Bool, true, false, ◌||◌, List, [], ◌∷◌, ◌++◌, Option, Some, bytes_eq, drop, fold, get_or, if◌then◌else◌, is_some, length, map, refl, sym, ap, take, ◌∙◌, append_assoc, append-nil, add-one, zero-add, suc, zero, arith}
use Rattle.std.specs.Borrow.{Bor}
use Rattle.std.specs.Map.{lookup}
use Rattle.indexmap.specs.IndexMap.{insert_entry}
use Rattle.std.proofs.lemmas.Bool.{true≢false}
use Rattle.std.proofs.lemmas.List.{drop_all, drop_more, map-append, take_more}
use Rattle.std.proofs.lemmas.List.Sums.{fold_push}
use Rattle.implib.specs.Members.MemberSpec.{MemberView}
use Rattle.implib_archive.specs.Archive.{entries_from, is_listed, with_first}
use Rattle.implib_archive.specs.Pushed.{shown}

-- an entry whose symbol is listed is not added
pub with_first-listed : (entries : List (List ℕ × ℕ)) (e : List ℕ × ℕ) → is_listed entries e.0 ≡ true → entries ≡ with_first entries e
unfolding with_first
with_first-listed entries e here = sym (ap (λ b. if b then entries else entries ++ e ∷ []) here)

-- an entry whose symbol is not listed comes last
pub with_first-new : (entries : List (List ℕ × ℕ)) (e : List ℕ × ℕ) → is_listed entries e.0 ≡ false → entries ++ e ∷ [] ≡ with_first entries e
unfolding with_first
with_first-new entries e here = sym (ap (λ b. if b then entries else entries ++ e ∷ []) here)

-- a map of borrowed texts, by the test that finds one
module _ (k : Bor (List ℕ)) (same : Bor (List ℕ) → Bool) (says : (x : Bor (List ℕ)) → same x ≡ bytes_eq k.now x.now) where
  found_step : (b any : Bool) (v : ℕ) (r : Option ℕ) → is_some r ≡ any → is_some (if b then Some v else r) ≡ (b || any)
  found_step true any v r rest = refl
  found_step false any v r rest = rest

  pub listed_key : (entries : List (Bor (List ℕ) × ℕ)) → is_some (lookup same entries) ≡ is_listed (shown entries) k.now
  listed_key [] = refl
  listed_key (e ∷ entries) = grind (arith, listed_key entries, is_some, found_step)

module _ (k : Bor (List ℕ)) (v : ℕ) (eq : Bor (List ℕ) → Bor (List ℕ) → Bool) (says : (x : Bor (List ℕ)) → eq k x ≡ bytes_eq k.now x.now) where
  by_first : (b any : Bool) (e : Bor (List ℕ) × ℕ) (entries : List (Bor (List ℕ) × ℕ)) → (b || any) ≡ false
      → (any ≡ false → shown (insert_entry eq entries k v) ≡ shown entries ++ (k.now, v) ∷ [])
      → shown (if b then (e.0, v) ∷ entries else e ∷ insert_entry eq entries k v) ≡ (e.0.now, e.1) ∷ (shown entries ++ (k.now, v) ∷ [])
  by_first true any e entries none rest = absurd (true≢false none)
  by_first false any e entries none rest = ap (λ t. (e.0.now, e.1) ∷ t) (rest none)

  pub inserted_new : (entries : List (Bor (List ℕ) × ℕ)) → is_listed (shown entries) k.now ≡ false → shown (insert_entry eq entries k v) ≡ shown entries ++ (k.now, v) ∷ []
  inserted_new [] none = refl
  inserted_new (e ∷ entries) none = grind (arith, inserted_new entries, by_first)

-- one entry more
pub firsts_more : (entries : List (Bor (List ℕ) × ℕ)) (i : ℕ) (d : Bor (List ℕ) × ℕ) → i < length entries
    → fold with_first [] (shown (take (i + 1) entries)) ≡ with_first (fold with_first [] (shown (take i entries))) ((get_or entries i d).0.now, (get_or entries i d).1)
firsts_more entries i d within = ap (λ t. fold with_first [] (shown t)) (take_more entries i d within)
    ∙ (ap (fold with_first []) (map-append (λ e. (e.0.now, e.1)) (take i entries) (get_or entries i d ∷ []))
    ∙ fold_push with_first [] (shown (take i entries)) ((get_or entries i d).0.now, (get_or entries i d).1))

-- the entries of one member more
pub entries_more : (found pushed : List (List ℕ × ℕ)) (number : ℕ) (members : List MemberView) (i : ℕ) (d : MemberView) → i < length members
    → pushed ≡ found ++ map (λ symbol. (symbol, number)) (get_or members i d).symbols
    → pushed ++ entries_from (number + 1) (drop (i + 1) members) ≡ found ++ entries_from number (drop i members)
unfolding entries_from
entries_more found pushed number members i d within e = grind (arith, append_assoc, drop_more)

-- no member is left
pub entries_all : (found : List (List ℕ × ℕ)) (number : ℕ) (members : List MemberView) (i : ℕ) → length members ≤ i → found ++ entries_from number (drop i members) ≡ found
unfolding entries_from
entries_all found number members i past = ap (λ t. found ++ entries_from number t) (drop_all i members past) ∙ append-nil found

length-symbols : (number : ℕ) (symbols : List (List ℕ)) (entries : List (List ℕ × ℕ)) → length (map (λ symbol. (symbol, number)) symbols ++ entries) ≡ length symbols + length entries
length-symbols number [] entries = sym (zero-add (length entries))
length-symbols number (s ∷ symbols) entries = omega (arith, length-symbols number symbols entries)

count_suc : (number : ℕ) (members : List MemberView) (i : ℕ) (d : MemberView) → i < length members
    → length (entries_from number (take (suc i) members)) ≡ length (entries_from number (take i members)) + length (get_or members i d).symbols
unfolding entries_from
count_suc number [] i d within = absurd (omega arith)
count_suc number (m ∷ members) zero d within = omega (arith, length-symbols number m.symbols [])
count_suc number (m ∷ members) (suc i) d within =
    let w : i < length members = omega arith in
    omega (
      arith,
      count_suc (number + 1) members i d w,
      length-symbols number m.symbols (entries_from (number + 1) (take (suc i) members)),
      length-symbols number m.symbols (entries_from (number + 1) (take i members)),
    )

-- the symbols of one member more
pub count_more : (number : ℕ) (members : List MemberView) (i : ℕ) (d : MemberView) → i < length members
    → length (entries_from number (take (i + 1) members)) ≡ length (entries_from number (take i members)) + length (get_or members i d).symbols
count_more number members i d within = ap (λ k. length (entries_from number (take k members))) (add-one i) ∙ count_suc number members i d within
