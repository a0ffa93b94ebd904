-- A list of names is wanted as an object's, and adds nothing to what is linked.
use Rattle.std.proofs.Common.{arith, ◌≡◌, ℕ, List, [], ◌∷◌, ◌++◌, refl, ap, map}
use Rattle.std.specs.List.{filter, filter_map}
use Rattle.std.proofs.lemmas.List.Elements.{filter-append}
use Rattle.implib.specs.declared.machine.MachineType.{MachineType}
use Rattle.implib.specs.Formats.Object.{Object, ObjectSection}
use Rattle.implib.specs.Link.Image.{contributions, contributions_in, image_of}
use Rattle.implib.specs.Link.Linked.{undefined_name}
use Rattle.implib.specs.Link.Placement.{Bases, Group, Placed, SectionAddress, placed_from}
use Rattle.implib.specs.Link.Resolution.{defined_by_entry, definitions_of}
use Rattle.implib_link.specs.Flavors.Program.{AreEnded, Ending, FlavorInput, IsProgramOf, ClaimsNone, claimed_name, has_tables, group_end, sections_end}
use Rattle.implib_link.specs.Search.Search.{claims_of, references_of, unresolved, undefined_in, unclaimed, undefined_symbol, wanting}

-- The list: what it leaves to others, what it claims, what it defines.

all_left : (names : List (List ℕ)) → filter_map undefined_name (map undefined_symbol names) ≡ names
all_left [] = refl
all_left (name ∷ names) = ap (λ others. name ∷ others) (all_left names)

none_claimed : (names : List (List ℕ)) → filter_map claimed_name (map undefined_symbol names) ≡ []
none_claimed [] = refl
none_claimed (name ∷ names) = none_claimed names

none_defined : (names : List (List ℕ)) → filter_map (defined_by_entry []) (map undefined_symbol names) ≡ []
none_defined [] = refl
none_defined (name ∷ names) = none_defined names

pub names_wanted : (names : List (List ℕ)) (own : List Object) → unresolved (wanting names ∷ own) ≡ unclaimed own names ++ unresolved own
unfolding references_of claims_of undefined_in
names_wanted names own = grind (arith, all_left, none_claimed, filter-append)

-- What is linked is the same where each name has the same definitions.
module _ (machine : MachineType) (first second : List Placed) (same : (name : List ℕ) → definitions_of name first ≡ definitions_of name second) where
  in_same : (p : Placed) (group : Group) (addresses : List SectionAddress) (sections : List ObjectSection) → contributions_in machine first p group addresses sections ≡ contributions_in machine second p group addresses sections
  in_same p group (address ∷ addresses) (s ∷ sections) = grind (arith, in_same p group addresses sections)
  in_same p group addresses sections = cc

  contributions_same : (group : Group) (objects : List Placed) → contributions machine first group objects ≡ contributions machine second group objects
  contributions_same group [] = refl
  contributions_same group (p ∷ objects) = grind (arith, contributions_same group objects, in_same)

module _ (names : List (List ℕ)) (machine : MachineType) (bases : Bases) (objects : List Object) where
  abbrev with_list : List Placed
  with_list = placed_from bases (wanting names ∷ objects)

  pub definitions_same : (name : List ℕ) → definitions_of name with_list ≡ definitions_of name (placed_from bases objects)
  definitions_same name = rw (none_defined names) refl

  pub image_same : image_of machine bases with_list ≡ image_of machine bases (placed_from bases objects)
  image_same = grind (arith, contributions_same, definitions_same)

  claims_nothing : (texts : List (List ℕ)) → ClaimsNone texts (wanting names)
  claims_nothing [] = tt
  claims_nothing (text ∷ texts) = (rw (none_claimed names) refl, claims_nothing texts)

  ended_same : (ending : Ending) (inputs : List FlavorInput) (xs ys : List Object) → filter has_tables xs ≡ filter has_tables ys → AreEnded ending machine inputs xs → AreEnded ending machine inputs ys
  ended_same ending inputs xs ys same e = grind arith

  pub program_without : (ending : Ending) (inputs : List FlavorInput) → IsProgramOf machine ending bases inputs (wanting names ∷ objects) → IsProgramOf machine ending bases inputs objects
  unfolding has_tables group_end sections_end
  program_without ending inputs program = grind (arith, ended_same, image_same)

  pub program_with : (ending : Ending) (inputs : List FlavorInput) → IsProgramOf machine ending bases inputs objects → IsProgramOf machine ending bases inputs (wanting names ∷ objects)
  unfolding has_tables group_end sections_end
  program_with ending inputs program = grind (arith, ended_same, claims_nothing, image_same)
