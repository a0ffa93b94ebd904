-- Rows, a name at a time.
use Rattle.std.proofs.Common.{◌≡◌, ℕ, zero, suc, ◌+◌, ◌<◌, ◌≤◌, ◌==◌, true, false, cond, List, [], ◌∷◌, ◌++◌, map, length, take, get_or, refl, ap, ◌∙◌, sym, append-nil, arith}
use Rattle.std.proofs.Math.ListN.{set, get_or-map}
use Rattle.std.proofs.lemmas.Bool.{eq-eqb, eqb-true, false_from_ne_true}
use Rattle.std.proofs.lemmas.List.{length-map, length-take, map-append, map-set, take_more}
use Rattle.std.proofs.lemmas.List.Elements.{filter-append}
use Rattle.implib_dll.specs.declared.name.Name.{Name}
use Rattle.implib_dll.specs.declared.rows.Row.{Row}
use Rattle.implib_dll.specs.declared.target.Target.{Target as BorrowedTarget}
use Rattle.implib_dll.specs.Exports.{NameEntry, Target}
use Rattle.implib_dll.specs.Lookup.{ordinal_of}
use Rattle.implib_dll.specs.Rows.{Row as SeenRow, names_at, rows_from}
use Rattle.implib_dll.specs.Views.{name_view, row_view, target_view}

-- what stands past the end of names
abbrev pub no_name : Name
no_name = record { text = record { ref_ptr = (0, 0); now = [] }; index = 0 }

-- a row with one more name
abbrev pub with_name : SeenRow → List ℕ → SeenRow
with_name r text = record r { names = r.names ++ text ∷ [] }

names_at-more : (names : List NameEntry) (n : NameEntry) (index : ℕ)
    → names_at (names ++ n ∷ []) index ≡ names_at names index ++ map (λ name. name.text) (cond (n.index == index) (n ∷ []) [])
names_at-more names n index = grind (arith, filter-append, map-append)

names_at-other : (names : List NameEntry) (n : NameEntry) (index : ℕ) → (n.index == index) ≡ false → names_at (names ++ n ∷ []) index ≡ names_at names index
names_at-other names n index other = grind (arith, names_at-more, append-nil)

names_at-same : (names : List NameEntry) (n : NameEntry) (index : ℕ) → (n.index == index) ≡ true → names_at (names ++ n ∷ []) index ≡ names_at names index ++ n.text ∷ []
names_at-same names n index same = grind (arith, names_at-more)

-- a row of these names
abbrev pub row_with : ℕ → Target → ℕ → List (List ℕ) → SeenRow
row_with base target index names = record { ordinal = ordinal_of base index; target = target; names = names }

-- a name of none of the indexes changes no row
pub rows_from-apart : (base : ℕ) (names : List NameEntry) (n : NameEntry) (targets : List Target) (index : ℕ)
    → ((k : ℕ) → index ≤ k → k < index + length targets → (n.index == k) ≡ false)
    → rows_from base (names ++ n ∷ []) targets index ≡ rows_from base names targets index
rows_from-apart base names n [] index apart = refl
rows_from-apart base names n (t ∷ targets) index apart = grind (arith, rows_from-apart base names n targets (index + 1) (λ k low high. apart k (omega (arith, low)) (omega (arith, high))), names_at-other)

-- a name of an index is a further name of its row
pub rows_from-at : (base : ℕ) (names : List NameEntry) (n : NameEntry) (targets : List Target) (index k : ℕ) (d : SeenRow) → k < length targets → n.index ≡ index + k
    → rows_from base (names ++ n ∷ []) targets index ≡ set (rows_from base names targets index) k (with_name (get_or (rows_from base names targets index) k d) n.text)
rows_from-at base names n [] index k d within is = absurd (omega (arith, within))
rows_from-at base names n (t ∷ targets) index zero d within is = grind (arith, rows_from-apart, false_from_ne_true, eqb-true, names_at-same, eq-eqb)
rows_from-at base names n (t ∷ targets) index (suc k) d within is = grind (arith, rows_from-at base names n targets (index + 1) k d (omega (arith, within)) (omega (arith, is)), names_at-other, false_from_ne_true, eqb-true)

length-rows : (base : ℕ) (names : List NameEntry) (targets : List Target) (index : ℕ) → length (rows_from base names targets index) ≡ length targets
length-rows base names [] index = refl
length-rows base names (t ∷ targets) index = ap suc (length-rows base names targets (index + 1))

-- the names up to one more
names_more : (names : List Name) (i : ℕ) (d : Name) → i < length names → map name_view (take (i + 1) names) ≡ map name_view (take i names) ++ name_view (get_or names i d) ∷ []
names_more names i d within = ap (map name_view) (take_more names i d within) ∙ map-append name_view (take i names) (get_or names i d ∷ [])

pub name_added : (base : ℕ) (items next : List Row) (names : List Name) (targets : List Target) (i : ℕ) (d : Name) (old new : Row)
    → i < length names → (get_or names i d).index < length items → next ≡ set items (get_or names i d).index new → old ≡ get_or items (get_or names i d).index old
    → row_view new ≡ with_name (row_view old) (get_or names i d).text.now
    → map row_view items ≡ rows_from base (map name_view (take i names)) targets 0
    → map row_view next ≡ rows_from base (map name_view (take (i + 1) names)) targets 0
name_added base items next names targets i d old new some within is was named so_far =
    let n = name_view (get_or names i d) in
    let so_many : length items ≡ length targets = sym (length-map items row_view) ∙ (ap length so_far ∙ length-rows base (map name_view (take i names)) targets 0) in
    let item : get_or (rows_from base (map name_view (take i names)) targets 0) n.index (row_view old) ≡ row_view old = grind (arith, get_or-map row_view items n.index old) in
    ap (map row_view) is
    ∙ (map-set row_view items n.index new
    ∙ (ap (λ rows. set rows n.index (row_view new)) so_far
    ∙ (ap (λ row. set (rows_from base (map name_view (take i names)) targets 0) n.index row) (named ∙ ap (λ row. with_name row n.text) (sym item))
    ∙ (sym (rows_from-at base (map name_view (take i names)) n targets 0 n.index (row_view old) (omega (arith, within, so_many)) (omega arith))
    ∙ ap (λ seen. rows_from base seen targets 0) (sym (names_more names i d some))))))

pub name_passed : (base : ℕ) (items : List Row) (names : List Name) (targets : List Target) (i : ℕ) (d : Name)
    → i < length names → length items ≤ (get_or names i d).index
    → map row_view items ≡ rows_from base (map name_view (take i names)) targets 0
    → map row_view items ≡ rows_from base (map name_view (take (i + 1) names)) targets 0
name_passed base items names targets i d some past so_far = grind (arith, length-map items row_view, length-rows base (map name_view (take i names)) targets 0, rows_from-apart, false_from_ne_true, eqb-true, names_more names i d some)

-- rows of targets without names, up to one more
rows_from-append : (base : ℕ) (names : List NameEntry) (front : List Target) (t : Target) (index : ℕ)
    → rows_from base names (front ++ t ∷ []) index ≡ rows_from base names front index ++ row_with base t (index + length front) (names_at names (index + length front)) ∷ []
rows_from-append base names [] t index = grind arith
rows_from-append base names (s ∷ front) t index = grind (arith, rows_from-append base names front t (index + 1))

pub row_pushed : (base : ℕ) (items next : List Row) (targets : List BorrowedTarget) (i : ℕ) (new : Row)
    → i < length targets → next ≡ items ++ new ∷ [] → new.ordinal ≡ ordinal_of base i → new.target ≡ get_or targets i new.target → new.names.items ≡ []
    → map row_view items ≡ rows_from base [] (map target_view (take i targets)) 0
    → map row_view next ≡ rows_from base [] (map target_view (take (i + 1) targets)) 0
row_pushed base items next targets i new some is ordinal target none so_far = grind (arith, length-map, length-take i targets, take_more targets i new.target some, map-append, rows_from-append)
