-- The null descriptor, put in anywhere among objects without `.idata$3`, changes nothing of these.
use Rattle.std.proofs.Common.{◌≡◌, ℕ, ◌+◌, ◌%◌, Bool, true, false, List, [], ◌∷◌, ◌++◌, length, map, Option, Some, None, refl, ap, sym, ◌∙◌, arith, subst, inl, inr}
use Rattle.std.specs.Prelude.{bytes_eq}
use Rattle.std.specs.List.{AllByRecursion, filter, flat_map}
use Rattle.std.proofs.lemmas.Grind.{flat_map-append}
use Rattle.implib.specs.declared.machine.MachineType.{MachineType}
use Rattle.implib.specs.Link.Image.{contributions, contributions_in, filled}
use Rattle.implib.specs.Members.ImportTables.{zeros}
use Rattle.implib.specs.Formats.Layout.{entries_of, name_text, object_of}
use Rattle.implib.specs.Link.Linked.{AllFind, undefined_names}
use Rattle.implib.specs.Members.MsvcObjects.{null_descriptor, null_descriptor_symbol}
use Rattle.implib.specs.Formats.Object.{Object, ObjectSection}
use Rattle.implib.specs.Link.Placement.{At, Bases, Descriptors, DirectoryEnds, Group, Placed, end_after, ends_after, group_named, next_multiple, placed_from, section_addresses_of, same_group, section_address_of}
use Rattle.implib.specs.Link.Resolution.{SymbolDefinition, defined_by, definitions, definitions_of}
use Rattle.implib.proofs.Link.Definitions.{none_of, same_text}
use Rattle.implib.proofs.Link.Placement.{aligned}
use Rattle.implib.proofs.Link.Ranges.{Among}
use Rattle.implib_link.specs.Flavors.Program.{group_end, sections_end}
use Rattle.implib_link.specs.Flavors.Expansion.{with_section_symbols}
use Rattle.implib_link.proofs.Flavors.Expanded.{taken_null}
use Rattle.implib_link.proofs.Gnu.Packed.{ends_behind, placed_parts}
use Rattle.implib_link.proofs.Search.Lists.{all_parts}

-- whether a group is that of `.idata$3`
abbrev is_end : Option Group → Bool
is_end None = false
is_end (Some group) = same_group group DirectoryEnds

-- an object without `.idata$3`
abbrev pub EndsNothing : Object → Type 0
EndsNothing o = AllByRecursion (λ s. is_end (group_named s.name) ≡ false) o.sections

-- ends, with another one of `.idata$3`
abbrev with_end : ℕ → Bases → Bases
with_end n b = record b { directory_ends = n }

-- Places do not depend on where `.idata$3` has come to.

places_same : (n : ℕ) (b : Bases) (sections : List ObjectSection) → AllByRecursion (λ s. is_end (group_named s.name) ≡ false) sections →
    section_addresses_of (with_end n b) sections ≡ section_addresses_of b sections
places_same n b [] none = refl
places_same n b (s ∷ sections) none = grind (arith, places_same n (end_after b (section_address_of b s) (length s.bytes)) sections none.1)

ends_same : (n : ℕ) (b : Bases) (sections : List ObjectSection) → AllByRecursion (λ s. is_end (group_named s.name) ≡ false) sections →
    ends_after (with_end n b) sections ≡ with_end n (ends_after b sections)
ends_same n b [] none = refl
ends_same n b (s ∷ sections) none = grind (arith, ends_same n (end_after b (section_address_of b s) (length s.bytes)) sections none.1)

placed_same : (n : ℕ) (b : Bases) (objects : List Object) → AllByRecursion EndsNothing objects → placed_from (with_end n b) objects ≡ placed_from b objects
placed_same n b [] none = refl
placed_same n b (o ∷ objects) none = grind (arith, placed_same n (ends_after b o.sections) objects none.1, places_same, ends_same)

-- Where `.idata$3` has come to does not change.

ends_kept : (b : Bases) (sections : List ObjectSection) → AllByRecursion (λ s. is_end (group_named s.name) ≡ false) sections → (ends_after b sections).directory_ends ≡ b.directory_ends
ends_kept b [] none = refl
ends_kept b (s ∷ sections) none = grind (arith, ends_kept (end_after b (section_address_of b s) (length s.bytes)) sections none.1)

ends_behind_kept : (b : Bases) (objects : List Object) → AllByRecursion EndsNothing objects → (ends_behind b objects).directory_ends ≡ b.directory_ends
unfolding ends_behind
ends_behind_kept b [] none = refl
ends_behind_kept b (o ∷ objects) none = ends_behind_kept (ends_after b o.sections) objects none.1 ∙ ends_kept b o.sections none.0

sections_none : (machine : MachineType) (linked : List Placed) (p : Placed) (b : Bases) (sections : List ObjectSection) →
    AllByRecursion (λ s. is_end (group_named s.name) ≡ false) sections → contributions_in machine linked p DirectoryEnds (section_addresses_of b sections) sections ≡ []
sections_none machine linked p b [] none = refl
sections_none machine linked p b (s ∷ sections) none = grind (arith, sections_none machine linked p (end_after b (section_address_of b s) (length s.bytes)) sections none.1)

objects_none : (machine : MachineType) (linked : List Placed) (b : Bases) (objects : List Object) → AllByRecursion EndsNothing objects →
    contributions machine linked DirectoryEnds (placed_from b objects) ≡ []
objects_none machine linked b [] none = refl
objects_none machine linked b (o ∷ objects) none = grind (arith, objects_none machine linked (ends_after b o.sections) objects none.1, sections_none)

-- Lists with an element put in.

filter_insert : {X : Type 0} (test : X → Bool) (xs ys : List X) (n : X) → test n ≡ true → filter test (xs ++ ys) ≡ [] → filter test (xs ++ n ∷ ys) ≡ n ∷ []
filter_insert test [] ys n is none = rw is (ap (λ others. n ∷ others) none)
filter_insert test (x ∷ xs) ys n is none = grind (arith, filter_insert test xs ys n is)

filter_other : {X : Type 0} (test : X → Bool) (xs ys : List X) (n : X) → test n ≡ false → filter test (xs ++ n ∷ ys) ≡ filter test (xs ++ ys)
filter_other test [] ys n is = rw is refl
filter_other test (x ∷ xs) ys n is = grind (arith, filter_other test xs ys n is)

flat_insert : {X Y : Type 0} (f : X → List Y) (xs ys : List X) (n : X) → flat_map f (xs ++ n ∷ ys) ≡ flat_map f xs ++ (f n ++ flat_map f ys)
flat_insert f xs ys n = flat_map-append f xs (n ∷ ys)

flat_none : {X Y : Type 0} (f : X → List Y) (xs ys : List X) (n : X) → f n ≡ [] → flat_map f (xs ++ n ∷ ys) ≡ flat_map f (xs ++ ys)
flat_none f xs ys n none = grind (arith, flat_insert, flat_map-append)

pub all_insert : {X : Type 0} (P : X → Type 0) (xs ys : List X) (n : X) → P n → AllByRecursion P (xs ++ ys) → AllByRecursion P (xs ++ n ∷ ys)
all_insert P [] ys n here all = (here, all)
all_insert P (x ∷ xs) ys n here all = (all.0, all_insert P xs ys n here all.1)

among_insert : {X : Type 0} (x : X) (xs ys : List X) (n : X) → Among x (xs ++ ys) → Among x (xs ++ n ∷ ys)
unfolding Among
among_insert x [] ys n m = inr m
among_insert x (y ∷ xs) ys n (inl e) = inl e
among_insert x (y ∷ xs) ys n (inr m) = inr (among_insert x xs ys n m)

abbrev pub null_definition : Bases → SymbolDefinition
null_definition b = record { name = null_descriptor_symbol; address = Some b.directory_ends }

module _ (machine : MachineType) (b : Bases) (xs ys : List Object) (none : AllByRecursion EndsNothing (xs ++ ys)) (even : b.directory_ends % 4 ≡ 0) where
  abbrev last : Bases
  last = ends_behind b xs

  abbrev own : Placed
  own = record { object = taken_null machine; section_addresses = At DirectoryEnds b.directory_ends ∷ [] }

  abbrev front : List Placed
  front = placed_from b xs

  abbrev back : List Placed
  back = placed_from (ends_behind b xs) ys

  without : placed_from b (xs ++ ys) ≡ front ++ back
  without = placed_parts b xs ys

  with_null : placed_from b (xs ++ taken_null machine ∷ ys) ≡ front ++ own ∷ back
  unfolding with_section_symbols object_of null_descriptor entries_of name_text ends_behind
  with_null = grind (
    arith,
    ends_behind_kept b xs (all_parts EndsNothing xs ys none).0,
    all_parts EndsNothing xs ys none,
    aligned,
    placed_parts b xs (taken_null machine ∷ ys),
    taken_null machine,
    placed_same ((next_multiple 4 last.directory_ends) + 20) last ys (all_parts EndsNothing xs ys none).1,
  )

  -- a group that the null descriptor is not in
  pub group_same : (linked : List Placed) (group : Group) → same_group group DirectoryEnds ≡ false →
      contributions machine linked group (placed_from b (xs ++ taken_null machine ∷ ys)) ≡ contributions machine linked group (placed_from b (xs ++ ys))
  group_same linked group is = grind (arith, with_null, flat_none, without)

  -- the null descriptor alone is in `.idata$3`
  ends_are : (linked : List Placed) → contributions machine linked DirectoryEnds (placed_from b (xs ++ taken_null machine ∷ ys)) ≡ record { address = b.directory_ends; bytes = zeros 20 } ∷ []
  unfolding with_section_symbols object_of null_descriptor entries_of name_text
  ends_are linked = grind (arith, objects_none machine linked b xs (all_parts EndsNothing xs ys none).0, objects_none machine linked last ys (all_parts EndsNothing xs ys none).1, all_parts EndsNothing xs ys none, with_null, flat_insert)

  pub null_filled : (linked : List Placed) →
      filled b.directory_ends (contributions machine linked DirectoryEnds (placed_from b (xs ++ taken_null machine ∷ ys))) ≡ zeros 20
  null_filled linked = grind (arith, ends_are)

  definitions_with : definitions (placed_from b (xs ++ taken_null machine ∷ ys)) ≡ definitions front ++ null_definition b ∷ definitions back
  unfolding with_section_symbols object_of null_descriptor entries_of name_text
  definitions_with = grind (arith, with_null, flat_insert)

  definitions_without : definitions (placed_from b (xs ++ ys)) ≡ definitions front ++ definitions back
  definitions_without = ap definitions without ∙ flat_map-append defined_by front back

  -- another name's definitions are the same
  pub others_same : (name : List ℕ) → bytes_eq name null_descriptor_symbol ≡ false →
      definitions_of name (placed_from b (xs ++ taken_null machine ∷ ys)) ≡ definitions_of name (placed_from b (xs ++ ys))
  others_same name other = grind (arith, definitions_with, filter_other, definitions_without)

  -- and its own name is defined by it alone
  pub null_once : AllByRecursion (λ other. bytes_eq null_descriptor_symbol other ≡ false) (map (λ (d : SymbolDefinition). d.name) (definitions (placed_from b (xs ++ ys)))) →
      definitions_of null_descriptor_symbol (placed_from b (xs ++ taken_null machine ∷ ys)) ≡ null_definition b ∷ []
  null_once apart = grind (arith, same_text null_descriptor_symbol, none_of null_descriptor_symbol (definitions (placed_from b (xs ++ ys))) apart, definitions_with, filter_insert, definitions_without)

  -- it leaves nothing to others
  pub undefined_same : undefined_names (placed_from b (xs ++ taken_null machine ∷ ys)) ≡ undefined_names (placed_from b (xs ++ ys))
  unfolding with_section_symbols object_of null_descriptor entries_of name_text
  undefined_same = grind (arith, with_null, flat_none, without)

  -- and has no relocations
  pub finds_same : (linked : List Placed) → AllByRecursion (AllFind linked) (placed_from b (xs ++ ys)) → AllByRecursion (AllFind linked) (placed_from b (xs ++ taken_null machine ∷ ys))
  unfolding with_section_symbols object_of null_descriptor entries_of name_text
  finds_same linked all = grind (arith, with_null, all_insert (AllFind linked) front back own (tt, tt) (subst (AllByRecursion (AllFind linked)) without all))

  -- what is placed without it is placed with it, too
  pub among_same : (q : Placed) → Among q (placed_from b (xs ++ ys)) → Among q (placed_from b (xs ++ taken_null machine ∷ ys))
  among_same q m = subst (Among q) (sym with_null) (among_insert q front back own (subst (Among q) without m))

-- it ends `.idata$2` nowhere else
pub group_end-append : (group : Group) (n : ℕ) (xs ys : List Object) → group_end group n (xs ++ ys) ≡ group_end group (group_end group n xs) ys
unfolding group_end
group_end-append group n [] ys = refl
group_end-append group n (o ∷ xs) ys = group_end-append group (sections_end group n o.sections) xs ys

pub descriptors_end_same : (machine : MachineType) (n : ℕ) (xs ys : List Object) → group_end Descriptors n (xs ++ taken_null machine ∷ ys) ≡ group_end Descriptors n (xs ++ ys)
unfolding group_end sections_end with_section_symbols object_of null_descriptor entries_of name_text
descriptors_end_same machine n xs ys = group_end-append Descriptors n xs (taken_null machine ∷ ys) ∙ sym (group_end-append Descriptors n xs ys)
