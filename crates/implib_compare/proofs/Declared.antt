-- The symbols that an import declares, with those of addresses first.
use Rattle.std.proofs.Common.{◌≡◌, ◌∙◌, ℕ, Bool, true, false, List, [], ◌∷◌, ◌++◌, ap, append_assoc, if◌then◌else◌, refl, sym}
use Rattle.std.specs.Prelude.{not}
use Rattle.std.specs.List.{filter, flat_map}
use Rattle.std.proofs.lemmas.List.Concat.{flat_map-append}
use Rattle.implib.specs.Import.{imp_symbol, import_symbols}
use Rattle.implib_read.specs.Symbols.{begins_imp}
use Rattle.implib_compare.specs.Facts.{addresses_first, is_wanted, listed_if, listed_key}

-- the symbols of a short import are so
pub own_first : (is_data : Bool) (symbol : List ℕ) → addresses_first (import_symbols is_data symbol) ≡ import_symbols is_data symbol
own_first true symbol = refl
own_first false symbol = by (begins_imp symbol)
  where
    by : (b : Bool)
        → imp_symbol symbol ∷ ((if b then symbol ∷ [] else []) ++ (if not b then symbol ∷ [] else []))
        ≡ imp_symbol symbol ∷ (symbol ∷ [])
    by true = refl
    by false = refl

-- the keys of those that are wanted
wanted_keys : (wanted : Bool) (symbols : List (List ℕ)) → flat_map (listed_if wanted) symbols ≡ flat_map listed_key (filter (is_wanted wanted) symbols)
wanted_keys wanted [] = refl
wanted_keys wanted (s ∷ symbols) = by (is_wanted wanted s) (wanted_keys wanted symbols)
  where
    by : (b : Bool) → flat_map (listed_if wanted) symbols ≡ flat_map listed_key (filter (is_wanted wanted) symbols)
        → (if b then listed_key s else []) ++ flat_map (listed_if wanted) symbols
        ≡ flat_map listed_key (if b then s ∷ filter (is_wanted wanted) symbols else filter (is_wanted wanted) symbols)
    by true rest = ap (λ l. listed_key s ++ l) rest
    by false rest = rest

of_both : (wanted : Bool) (xs ys : List (List ℕ)) → flat_map (listed_if wanted) xs ++ flat_map (listed_if wanted) ys ≡ flat_map listed_key (filter (is_wanted wanted) (xs ++ ys))
of_both wanted xs ys = sym (flat_map-append (listed_if wanted) xs ys) ∙ wanted_keys wanted (xs ++ ys)

-- the keys of a list, those of addresses first
pub one_list : (key : List ℕ) (xs : List (List ℕ))
    → (key ++ flat_map (listed_if true) xs) ++ flat_map (listed_if false) xs ≡ key ++ flat_map listed_key (addresses_first xs)
one_list key xs =
    let a = flat_map (listed_if true) xs in
    let c = flat_map (listed_if false) xs in
    append_assoc key a c
    ∙ ap (λ l. key ++ l)
    (ap (λ l. l ++ c) (wanted_keys true xs)
    ∙ (ap (λ l. flat_map listed_key (filter (is_wanted true) xs) ++ l) (wanted_keys false xs)
    ∙ sym (flat_map-append listed_key (filter (is_wanted true) xs) (filter (is_wanted false) xs))))

-- the keys of two lists, those of addresses of both first
pub both_lists : (key : List ℕ) (xs ys : List (List ℕ))
    → (((key ++ flat_map (listed_if true) xs) ++ flat_map (listed_if true) ys) ++ flat_map (listed_if false) xs) ++ flat_map (listed_if false) ys
    ≡ key ++ flat_map listed_key (addresses_first (xs ++ ys))
both_lists key xs ys =
    let a = flat_map (listed_if true) xs in
    let b = flat_map (listed_if true) ys in
    let c = flat_map (listed_if false) xs in
    let d = flat_map (listed_if false) ys in
    append_assoc (((key ++ a) ++ b)) c d
    ∙ (append_assoc (key ++ a) b (c ++ d)
    ∙ (append_assoc key a (b ++ (c ++ d))
    ∙ ap (λ l. key ++ l)
    (sym (append_assoc a b (c ++ d))
    ∙ (ap (λ l. l ++ (c ++ d)) (of_both true xs ys)
    ∙ (ap (λ l. flat_map listed_key (filter (is_wanted true) (xs ++ ys)) ++ l) (of_both false xs ys)
    ∙ sym (flat_map-append listed_key (filter (is_wanted true) (xs ++ ys)) (filter (is_wanted false) (xs ++ ys))))))))
