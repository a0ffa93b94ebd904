-- The names of the string table of a writer.
use Rattle.std.proofs.Common.{◌≡◌, ℕ, suc, ◌+◌, ◌<◌, Bool, true, false, not, ◌||◌, cond, List, [], ◌∷◌, ◌++◌, length, map, bytes_eq, refl, ap, append_assoc, arith, if◌then◌else◌}
use Rattle.std.specs.Borrow.{Bor}
use Rattle.std.specs.List.{AllByRecursion, fold, list_any, position_or_len}
use Rattle.std.proofs.lemmas.List.{append-nil, map-append}
use Rattle.std.proofs.lemmas.List.Folds.{list_any-append}
use Rattle.std.proofs.lemmas.List.Sums.{fold_push}
use Rattle.std.proofs.lemmas.Bool.{cases_Bool, false≢true, true≢false}
use Rattle.std.proofs.lemmas.Slice.Eq.{bytes_eq-Decides}
use Rattle.implib.specs.Formats.Layout.{InStringTable, InRecord, LayoutSymbol, SymbolName}
use Rattle.implib.specs.Formats.Writer.{AddedSymbol, is_long, long_names, name_location, section_number, symbol_written, with_long_name, with_name}

-- the position of a name among names

found_step : (b any : Bool) (n m : ℕ) → (b || any) ≡ true → (any ≡ true → n ≡ m) → cond (not b) (1 + n) 0 ≡ cond (not b) (1 + m) 0
found_step true any n m there rest = refl
found_step false any n m there rest = ap (λ k. 1 + k) (rest there)

absent_step : (b any : Bool) (n m : ℕ) → (b || any) ≡ false → (any ≡ false → n ≡ m) → cond (not b) (1 + n) 0 ≡ suc m
absent_step true any n m absent rest = absurd (true≢false absent)
absent_step false any n m absent rest = let e : n ≡ m = rest absent in omega (arith, e)

-- a name is where it was first, also where more names follow
position-append : (p : List ℕ → Bool) (names more : List (List ℕ)) → list_any p names ≡ true → position_or_len p (names ++ more) ≡ position_or_len p names
position-append p [] more there = absurd (false≢true there)
position-append p (x ∷ names) more there =
    found_step (p x) (list_any p names) (position_or_len p (names ++ more)) (position_or_len p names) there (λ h. position-append p names more h)

position-absent : (p : List ℕ → Bool) (names : List (List ℕ)) → list_any p names ≡ false → position_or_len p names ≡ length names
position-absent p [] absent = refl
position-absent p (x ∷ names) absent =
    absent_step (p x) (list_any p names) (position_or_len p names) (length names) absent (λ h. position-absent p names h)

position-push : (p : List ℕ → Bool) (names : List (List ℕ)) (name : List ℕ) → list_any p names ≡ false → p name ≡ true → position_or_len p (names ++ name ∷ []) ≡ length names
position-push p [] name absent here = rw here refl
position-push p (x ∷ names) name absent here =
    absent_step (p x) (list_any p names) (position_or_len p (names ++ name ∷ [])) (length names) absent (λ h. position-push p names name h here)

-- a name that is there is below the number of names
pub position-below : (p : List ℕ → Bool) (names : List (List ℕ)) → list_any p names ≡ true → position_or_len p names < length names
position-below p [] there = absurd (false≢true there)
position-below p (x ∷ names) there = below_step (p x) (list_any p names) (position_or_len p names) (length names) there (λ h. position-below p names h)
  where
    below_step : (b any : Bool) (n m : ℕ) → (b || any) ≡ true → (any ≡ true → n < m) → cond (not b) (1 + n) 0 < suc m
    below_step true any n m there rest = omega arith
    below_step false any n m there rest = let e : n < m = rest there in omega (arith, e)

-- adding a name

pub with_name-present : (names : List (List ℕ)) (name : List ℕ) → list_any (bytes_eq name) names ≡ true → with_name names name ≡ names
unfolding with_name
with_name-present names name there = rw there refl

pub with_name-absent : (names : List (List ℕ)) (name : List ℕ) → list_any (bytes_eq name) names ≡ false → with_name names name ≡ names ++ name ∷ []
unfolding with_name
with_name-absent names name absent = rw absent refl

same_name : (name : List ℕ) → bytes_eq name name ≡ true
same_name name = (bytes_eq-Decides name name).1 refl

-- what was there is there
list_any-with_name : (p : List ℕ → Bool) (names : List (List ℕ)) (name : List ℕ) → list_any p names ≡ true → list_any p (with_name names name) ≡ true
list_any-with_name p names name there = grind (arith, cases_Bool, with_name-present, with_name-absent, list_any-append)

-- the name itself is there
with_name-listed : (names : List (List ℕ)) (name : List ℕ) → list_any (bytes_eq name) (with_name names name) ≡ true
with_name-listed names name = grind (arith, cases_Bool, with_name-present, with_name-absent, list_any-append, same_name)

-- a name that was there keeps its position
position-with_name : (p : List ℕ → Bool) (names : List (List ℕ)) (name : List ℕ) → list_any p names ≡ true → position_or_len p (with_name names name) ≡ position_or_len p names
position-with_name p names name there = grind (arith, cases_Bool, with_name-present, with_name-absent, position-append)

-- the name that is added is where it was looked for
pub position-added : (names : List (List ℕ)) (name : List ℕ) → position_or_len (bytes_eq name) (with_name names name) ≡ position_or_len (bytes_eq name) names
position-added names name = grind (arith, cases_Bool, with_name-present, with_name-absent, position-push, same_name, position-absent)

-- the long names of symbols

-- where the symbol's name is long, it is among the names
pub record IsListed (names : List (List ℕ)) (s : AddedSymbol) : Type 0 where
  pub listed : is_long s.name ≡ true → list_any (bytes_eq s.name) names ≡ true

pub with_long_name-long : (names : List (List ℕ)) (name : List ℕ) → is_long name ≡ true → with_long_name names name ≡ with_name names name
unfolding with_long_name
with_long_name-long names name long = rw long refl

pub with_long_name-short : (names : List (List ℕ)) (name : List ℕ) → is_long name ≡ false → with_long_name names name ≡ names
unfolding with_long_name
with_long_name-short names name short = rw short refl

list_any-with_long_name : (p : List ℕ → Bool) (names : List (List ℕ)) (name : List ℕ) → list_any p names ≡ true → list_any p (with_long_name names name) ≡ true
list_any-with_long_name p names name there = grind (arith, cases_Bool, with_long_name-long, list_any-with_name, with_long_name-short)

position-with_long_name : (p : List ℕ → Bool) (names : List (List ℕ)) (name : List ℕ) → list_any p names ≡ true → position_or_len p (with_long_name names name) ≡ position_or_len p names
position-with_long_name p names name there = grind (arith, cases_Bool, with_long_name-long, position-with_name, with_long_name-short)

IsListed-self : (names : List (List ℕ)) (s : AddedSymbol) → IsListed (with_long_name names s.name) s
IsListed-self names s = grind (arith, with_long_name-long, with_name-listed)

IsListed-more : (names : List (List ℕ)) (s : AddedSymbol) (done : List AddedSymbol) → AllByRecursion (IsListed names) done → AllByRecursion (IsListed (with_long_name names s.name)) (done ++ s ∷ [])
IsListed-more names s [] all = (IsListed-self names s, tt)
IsListed-more names s (x ∷ done) all = grind (arith, IsListed-more names s done all.1, list_any-with_long_name)

all_listed : (names : List (List ℕ)) (done rest : List AddedSymbol) → AllByRecursion (IsListed names) done → AllByRecursion (IsListed (fold with_long_name names (map (λ x. x.name) rest))) (done ++ rest)
all_listed names done [] all = rw (append-nil done) all
all_listed names done (s ∷ rest) all = grind (arith, all_listed (with_long_name names s.name) (done ++ s ∷ []) rest (IsListed-more names s done all), append_assoc, IsListed-more)

-- each symbol's long name is among the long names
pub long_names-listed : (symbols : List AddedSymbol) → AllByRecursion (IsListed (long_names symbols)) symbols
unfolding long_names
long_names-listed symbols = all_listed [] [] symbols tt

-- a symbol that was written before a name was added is written the same after
name_location-more : (names : List (List ℕ)) (s : AddedSymbol) (t : List ℕ) → IsListed names s → name_location (with_long_name names t) s.name ≡ name_location names s.name
unfolding name_location
name_location-more names s t known = grind (arith, cases_Bool, position-with_long_name)

pub symbols_written-more : (names : List (List ℕ)) (t : List ℕ) (ss : List AddedSymbol) → AllByRecursion (IsListed names) ss → map (symbol_written (with_long_name names t)) ss ≡ map (symbol_written names) ss
unfolding symbol_written
symbols_written-more names t [] all = refl
symbols_written-more names t (s ∷ ss) all = rw (name_location-more names s t all.0, symbols_written-more names t ss all.1) refl

-- a name that is long is where it was looked for, and a short one in its record

pub name_location-long : (names : List (List ℕ)) (name : List ℕ) → is_long name ≡ true → name_location (with_long_name names name) name ≡ InStringTable (position_or_len (bytes_eq name) names)
unfolding name_location
name_location-long names name long = rw (long, with_long_name-long names name long, position-added names name) refl

pub name_location-short : (names : List (List ℕ)) (name : List ℕ) → is_long name ≡ false → name_location names name ≡ InRecord name
unfolding name_location
name_location-short names name short = rw short refl

-- one symbol more

pub long_names-push : (ss : List AddedSymbol) (s : AddedSymbol) → long_names (ss ++ s ∷ []) ≡ with_long_name (long_names ss) s.name
unfolding long_names
long_names-push ss s = rw (map-append (λ x. x.name) ss (s ∷ [])) (fold_push with_long_name [] (map (λ x. x.name) ss) s.name)

pub symbols_written-push : (ss : List AddedSymbol) (s : AddedSymbol) (done : List LayoutSymbol) (next : LayoutSymbol)
    → done ≡ map (symbol_written (long_names ss)) ss
    → next ≡ symbol_written (with_long_name (long_names ss) s.name) s
    → done ++ next ∷ [] ≡ map (symbol_written (long_names (ss ++ s ∷ []))) (ss ++ s ∷ [])
symbols_written-push ss s done next so_far here = grind (arith, long_names-push, map-append, symbols_written-more, long_names-listed)

-- a symbol whose name is found where it is written
pub symbol_written-is : (names : List (List ℕ)) (s : AddedSymbol) (position : SymbolName) (number : ℕ) → position ≡ name_location names s.name → number ≡ section_number s.place
    → record { name = position; value = s.value; section = number; class = s.class; aux = s.aux } ≡ symbol_written names s
unfolding symbol_written
symbol_written-is names s position number e f = rw (e, f) refl

-- a set of texts that are borrowed, by the test that finds one

module _ (k : Bor (List ℕ)) (same : Bor (List ℕ) → Bool) (says : (x : Bor (List ℕ)) → same x ≡ bytes_eq k.now x.now) where
  any_key : (keys : List (Bor (List ℕ))) → list_any same keys ≡ list_any (bytes_eq k.now) (map (λ t. t.now) keys)
  any_key [] = refl
  any_key (x ∷ keys) = rw (says x, any_key keys) refl

  pub position_key : (keys : List (Bor (List ℕ))) → position_or_len same keys ≡ position_or_len (bytes_eq k.now) (map (λ t. t.now) keys)
  position_key [] = refl
  position_key (x ∷ keys) = rw (says x, position_key keys) refl

  pub insert_key_text : (keys : List (Bor (List ℕ))) → map (λ t. t.now) (if list_any same keys then keys else keys ++ k ∷ []) ≡ with_name (map (λ t. t.now) keys) k.now
  insert_key_text keys = grind (arith, cases_Bool, any_key, with_name-present, with_name-absent, map-append)
