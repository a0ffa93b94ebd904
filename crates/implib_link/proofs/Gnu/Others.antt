-- A name that is defined once is defined by one entry of one object.
use Rattle.std.proofs.Common.{◌≡◌, ℕ, ◌+◌, ◌≤◌, Bool, true, List, [], ◌∷◌, length, ap, sym, ◌∙◌, subst, inl, inr, arith, false, ◌++◌, None, refl, codes}
use Rattle.std.specs.Prelude.{bytes_eq, ◌&&◌, not, take}
use Rattle.std.specs.List.{filter, filter_map, AllByRecursion, list_any}
use Rattle.std.proofs.Math.Nat.{le_trans}
use Rattle.std.proofs.lemmas.List.{length-append}
use Rattle.std.proofs.lemmas.List.Elements.{filter-append}
use Rattle.implib.specs.Formats.File.{is_defined_external}
use Rattle.implib.specs.Formats.Object.{ASymbol, Entry, ObjectSymbol, Auxiliary, Object, ObjectSection}
use Rattle.implib.specs.Link.Placement.{Placed, SectionAddress, Bases, Group, ends_after, group_named, placed_from, section_addresses_of}
use Rattle.implib.specs.Link.Resolution.{SymbolDefinition, defined_by, defined_by_entry, definitions, definitions_of}
use Rattle.implib.proofs.Link.Definitions.{same_text}
use Rattle.implib.proofs.Link.Ranges.{Among}
use Rattle.std.proofs.lemmas.Grind.{flat_map-append}
use Rattle.std.proofs.lemmas.Bool.{cases_Bool}
use Rattle.implib.specs.declared.machine.MachineType.{MachineType}
use Rattle.implib.specs.Link.Image.{contributions, contributions_in}
use Rattle.implib_link.specs.Flavors.Program.{claimed_name, claimed_names, has_tables, is_reference, is_shared, is_table}

-- Where all of a list count one at most, one of them alone counts.
module _ {X : Type 0} (one : X → ℕ) (count : List X → ℕ) (next : (x : X) (xs : List X) → count (x ∷ xs) ≡ one x + count xs) where
  pub counted : (x : X) (xs : List X) → Among x xs → one x ≤ count xs
  unfolding Among
  counted x [] m = absurd m
  counted x (y ∷ xs) (inl same) = let sum : count (y ∷ xs) ≡ one y + count xs = next y xs in let own : one x ≡ one y = ap one same in omega arith
  counted x (y ∷ xs) (inr m) = let sum : count (y ∷ xs) ≡ one y + count xs = next y xs in let later : one x ≤ count xs = counted x xs m in omega arith

  pub one_holder : (x y : X) (xs : List X) → count xs ≤ 1 → Among x xs → Among y xs → 1 ≤ one x → 1 ≤ one y → x ≡ y
  unfolding Among
  one_holder x y [] most m n first second = absurd m
  one_holder x y (z ∷ xs) most (inl same) (inl other) first second = same ∙ sym other
  one_holder x y (z ∷ xs) most (inl same) (inr n) first second = grind (arith, counted)
  one_holder x y (z ∷ xs) most (inr m) (inl other) first second = grind (arith, counted)
  one_holder x y (z ∷ xs) most (inr m) (inr n) first second = grind (arith, one_holder x y xs (omega arith) m n first second)

module _ (name : List ℕ) where
  abbrev is_named : SymbolDefinition → Bool
  is_named d = bytes_eq name d.name

  abbrev entry_count : List SectionAddress → List Entry → ℕ
  entry_count addresses entries = length (filter is_named (filter_map (defined_by_entry addresses) entries))

  entry_next : (addresses : List SectionAddress) (x : Entry) (xs : List Entry) → entry_count addresses (x ∷ xs) ≡ entry_count addresses (x ∷ []) + entry_count addresses xs
  entry_next addresses x xs = grind arith

  entry_counts : (addresses : List SectionAddress) (t : ObjectSymbol) → is_defined_external t ≡ true → t.name ≡ name → 1 ≤ entry_count addresses (ASymbol t ∷ [])
  entry_counts addresses t external named = grind (arith, same_text)

  placed_next : (p : Placed) (linked : List Placed) → length (definitions_of name (p ∷ linked)) ≡ length (filter is_named (defined_by p)) + length (definitions_of name linked)
  placed_next p linked = grind (arith, filter-append, length-append)

  pub one_definer : (linked : List Placed) (p q : Placed) (t u : ObjectSymbol) → length (definitions_of name linked) ≤ 1 → Among p linked → Among (ASymbol t) p.object.entries →
      is_defined_external t ≡ true → t.name ≡ name → Among q linked → Among (ASymbol u) q.object.entries → is_defined_external u ≡ true → u.name ≡ name → (p ≡ q) × (ASymbol t ≡ ASymbol u)
  one_definer linked p q t u most m first external named n second other_external other_named =
      let own : 1 ≤ length (filter is_named (defined_by p)) =
      le_trans (entry_counts p.section_addresses t external named) (counted (λ x. entry_count p.section_addresses (x ∷ [])) (entry_count p.section_addresses) (entry_next p.section_addresses) (ASymbol t) p.object.entries first) in
      let other : 1 ≤ length (filter is_named (defined_by q)) =
      le_trans (entry_counts q.section_addresses u other_external other_named) (counted (λ x. entry_count q.section_addresses (x ∷ [])) (entry_count q.section_addresses) (entry_next q.section_addresses) (ASymbol u) q.object.entries second) in
      let same : p ≡ q =
      one_holder (λ (x : Placed). length (filter is_named (defined_by x))) (λ xs. length (definitions_of name xs)) placed_next p q linked most m n own other in
      let within : length (filter is_named (defined_by p)) ≤ 1 =
      le_trans (counted (λ (x : Placed). length (filter is_named (defined_by x))) (λ xs. length (definitions_of name xs)) placed_next p linked m) most in (
        same,
        one_holder (λ x. entry_count p.section_addresses (x ∷ [])) (entry_count p.section_addresses) (entry_next p.section_addresses) (ASymbol t) (ASymbol u) p.object.entries within first
            (subst (λ (x : Placed). Among (ASymbol u) x.object.entries) (sym same) second) (entry_counts p.section_addresses t external named) (entry_counts p.section_addresses u other_external other_named),
      )

-- Objects without import tables change nothing of those that have them.

pub no_group : (name : List ℕ) → bytes_eq (take 7 name) (codes ".idata$") ≡ false → group_named name ≡ None
no_group name other = grind arith

no_ends : (b : Bases) (sections : List ObjectSection) → list_any is_table sections ≡ false → ends_after b sections ≡ b
no_ends b [] none = refl
no_ends b (s ∷ sections) none = grind (arith, no_ends b sections)

no_contributions : (machine : MachineType) (linked : List Placed) (p : Placed) (group : Group) (b : Bases) (sections : List ObjectSection) →
    list_any is_table sections ≡ false → contributions_in machine linked p group (section_addresses_of b sections) sections ≡ []
no_contributions machine linked p group b [] none = refl
no_contributions machine linked p group b (s ∷ sections) none = grind (arith, no_contributions machine linked p group b sections)

pub contributions_kept : (machine : MachineType) (linked : List Placed) (group : Group) (b : Bases) (objects : List Object) →
    contributions machine linked group (placed_from b objects) ≡ contributions machine linked group (placed_from b (filter has_tables objects))
unfolding has_tables
contributions_kept machine linked group b [] = refl
contributions_kept machine linked group b (o ∷ objects) = grind (arith, contributions_kept machine linked group (ends_after b o.sections) objects, contributions_kept machine linked group b objects, no_contributions, no_ends)

pub placed_kept : (b : Bases) (objects : List Object) →
    filter (λ (p : Placed). has_tables p.object) (placed_from b objects) ≡ placed_from b (filter has_tables objects)
unfolding has_tables
placed_kept b [] = refl
placed_kept b (o ∷ objects) = grind (arith, placed_kept (ends_after b o.sections) objects, placed_kept b objects, no_ends)

-- a symbol that an object defines is one that it claims
pub defined_is_claimed : (s : ObjectSymbol) → is_defined_external s ≡ true → (is_shared s && not (is_reference s)) ≡ true
defined_is_claimed s is = grind arith

pub defines_none : (name : List ℕ) (section_addresses : List SectionAddress) (entries : List Entry) → list_any (bytes_eq name) (filter_map claimed_name entries) ≡ false →
    filter (λ (d : SymbolDefinition). bytes_eq name d.name) (filter_map (defined_by_entry section_addresses) entries) ≡ []
defines_none name section_addresses [] none = refl
defines_none name section_addresses (Auxiliary bytes ∷ entries) none = defines_none name section_addresses entries none
defines_none name section_addresses (ASymbol s ∷ entries) none = grind (arith, defines_none name section_addresses entries, defines_none name section_addresses entries (grind arith))

-- the definitions of a name that the others do not claim
pub definitions_kept : (name : List ℕ) (b : Bases) (objects : List Object) →
    AllByRecursion (λ o. list_any (bytes_eq name) (claimed_names o) ≡ false) (filter (λ o. not (has_tables o)) objects) →
    definitions_of name (placed_from b objects) ≡ definitions_of name (placed_from b (filter has_tables objects))
unfolding has_tables
definitions_kept name b [] none = refl
definitions_kept name b (o ∷ objects) none =
    let own : List SymbolDefinition = filter_map (defined_by_entry (section_addresses_of b o.sections)) o.entries in
    let later : List SymbolDefinition = definitions (placed_from (ends_after b o.sections) objects) in
    filter-append (λ (d : SymbolDefinition). bytes_eq name d.name) own later
    ∙ elim (cases_Bool (list_any is_table o.sections)) as (λ _. filter (λ (d : SymbolDefinition). bytes_eq name d.name) own ++ definitions_of name (placed_from (ends_after b o.sections) objects)
    ≡ definitions_of name (placed_from b (filter has_tables (o ∷ objects)))) [
      | inl is ↦
          let none_left : AllByRecursion (λ o. list_any (bytes_eq name) (claimed_names o) ≡ false) (filter (λ o. not (has_tables o)) objects) = rw is at none in
          rw is (ap (λ others. filter (λ (d : SymbolDefinition). bytes_eq name d.name) own ++ others) (definitions_kept name (ends_after b o.sections) objects none_left)
          ∙ sym (filter-append (λ (d : SymbolDefinition). bytes_eq name d.name) own (definitions (placed_from (ends_after b o.sections) (filter has_tables objects)))))
      | inr is ↦ grind (arith, defines_none name (section_addresses_of b o.sections) o.entries (rw is at none).0, no_ends b o.sections is, definitions_kept name b objects (rw is at none).1)
    ]

pub definitions_parts : (name : List ℕ) (front rest : List Placed) → definitions_of name (front ++ rest) ≡ definitions_of name front ++ definitions_of name rest
definitions_parts name front rest = grind (arith, flat_map-append, filter-append)
