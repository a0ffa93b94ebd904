-- A program of members for GNU's linker is one of parts.
use Rattle.std.proofs.Common.{◌≡◌, List, [], ◌∷◌, ◌++◌, map, refl, ap, sym, ◌∙◌, subst, ℕ, zero, suc, ◌+◌, ◌*◌, ◌^◌, ◌<◌, length, Some, inl, inr, arith, ◌⊎◌}
use Rattle.std.specs.Prelude.{bytes_eq, not, slice_get}
use Rattle.std.specs.List.{AllByRecursion, IsDistinct, filter, filter_map, flat_map}
use Rattle.std.proofs.lemmas.Grind.{flat_map-append}
use Rattle.std.proofs.lemmas.List.{append-nil, append_assoc, map-append}
use Rattle.std.proofs.lemmas.List.Elements.{filter_map-append}
use Rattle.implib.specs.declared.machine.MachineType.{MachineType}
use Rattle.implib.specs.Formats.Object.{Object, ASymbol, Auxiliary, Entry}
use Rattle.implib.specs.Link.LinkedMembers.{IsMade, LinkInput, all_linked, objects_in}
use Rattle.implib.specs.Link.Placement.{Bases, placed_from, Addresses, Descriptors, DllNames, Group, HintNames, Lookups, Placed, SectionAddress, base_of, ends_after, section_addresses_of}
use Rattle.implib_link.specs.Flavors.Program.{IsProgram, OfLinker, all_members, gnu_input, symbols_listed, claimed_names, has_tables, null_descriptor, claimed_name}
use Rattle.implib_link.specs.Parts.{IsProgramOfParts, Part, names_of_parts, objects_of_parts, part_of, BeginWithHead, HoldsFields, IsPart}
use Rattle.implib_link.proofs.Flavors.Program.{gnu_made, gnu_members, program_links}
use Rattle.implib_link.proofs.Flavors.Block.{claimed_placed, plus_sum, null_located, table_sum, all_claim}
use Rattle.implib_link.proofs.Gnu.Others.{placed_kept, contributions_kept, defined_is_claimed, definitions_kept}
use Rattle.implib.specs.Link.Image.{Range, contributions, filled, image_of, range_end}
use Rattle.implib.specs.Link.Load.{BytesAt, NumberAt}
use Rattle.implib.specs.Link.Resolution.{SymbolDefinition, defined_by, defined_by_entry, definitions, definitions_of}
use Rattle.implib.specs.Members.ImportTables.{thunk_width, zeros}
use Rattle.implib.proofs.Link.Definitions.{only_definition}
use Rattle.implib.proofs.Link.Linked.{LocatedFrom}
use Rattle.implib.proofs.Link.LinkedBlocks.{each_located, ends, even, starts}
use Rattle.implib.proofs.Link.LinkedMembers.{among_map}
use Rattle.implib.proofs.Link.Placement.{AreAligned}
use Rattle.implib.proofs.Link.Ranges.{Among, among_back, among_flat}
use Rattle.implib_link.specs.Directory.{DirectoryAt}
use Rattle.implib_link.specs.Tables.{AreTables, Block, TableEntry, tables_at}
use Rattle.implib_link.proofs.Gnu.Loaded.{times_none as plus_zero}
use Rattle.implib_link.proofs.Gnu.Packed.{ends_behind, located_behind, placed_parts}
use Rattle.implib_link.proofs.Tables.{are_packed, entries_until, imported_by_block}
use Rattle.implib_link.proofs.Search.Lists.{among_filter}
use Rattle.implib_link.proofs.Parts.Heads.{IsEntryPlaced, PartLinks, part_links}

abbrev parts_of : MachineType → List LinkInput → List Part
parts_of machine inputs = map (part_of machine) inputs

members_objects : (machine : MachineType) (inputs : List LinkInput) → objects_in (all_linked machine inputs) ≡ objects_of_parts (map (part_of machine) inputs)
members_objects machine [] = refl
members_objects machine (p ∷ inputs) = grind (arith, members_objects machine inputs, filter_map-append)

module _ (machine : MachineType) (bases : Bases) (inputs : List LinkInput) (objects : List Object) (made : AllByRecursion (IsMade machine) inputs) (program : IsProgram machine bases inputs objects) where
  tables_are : filter has_tables objects ≡ objects_of_parts (parts_of machine inputs) ++ null_descriptor ∷ []
  tables_are = grind (arith, gnu_members, members_objects)

  names_are : symbols_listed (all_members machine (map gnu_input inputs)) ≡ names_of_parts (parts_of machine inputs)
  names_are = grind (
    arith,
    program_links machine OfLinker bases (map gnu_input inputs) objects (gnu_made machine inputs made) program,
    placed_kept bases objects,
    tables_are,
    claimed_placed bases (objects_of_parts (parts_of machine inputs) ++ null_descriptor ∷ []),
    flat_map-append claimed_names (objects_of_parts (parts_of machine inputs)) (null_descriptor ∷ []),
    append-nil (names_of_parts (parts_of machine inputs)),
  )

  pub program_of_parts : IsProgramOfParts machine bases (map (part_of machine) inputs) objects
  program_of_parts = grind (arith, tables_are, names_are)

-- Programs of parts have import tables.

-- Names of definitions are among those that objects claim, in their order.

unfoldable IsAmong : List (List ℕ) → List (List ℕ) → Type 0
IsAmong [] ys = Unit {0}
IsAmong (x ∷ xs) [] = ⊥
IsAmong (x ∷ xs) (y ∷ ys) = ((x ≡ y) × IsAmong xs ys) ⊎ IsAmong (x ∷ xs) ys

among_skip : (xs : List (List ℕ)) (y : List ℕ) (ys : List (List ℕ)) → IsAmong xs ys → IsAmong xs (y ∷ ys)
unfolding IsAmong
among_skip [] y ys is = tt
among_skip (x ∷ xs) y ys is = inr is

among_append : (xs ys zs ws : List (List ℕ)) → IsAmong xs ys → IsAmong zs ws → IsAmong (xs ++ zs) (ys ++ ws)
unfolding IsAmong
among_append [] [] zs ws first second = second
among_append [] (y ∷ ys) zs ws first second = among_skip zs y (ys ++ ws) (among_append [] ys zs ws tt second)
among_append (x ∷ xs) [] zs ws first second = absurd first
among_append (x ∷ xs) (y ∷ ys) zs ws (inl (e, first)) second = inl (e, among_append xs ys zs ws first second)
among_append (x ∷ xs) (y ∷ ys) zs ws (inr first) second = inr (among_append (x ∷ xs) ys zs ws first second)

among_all : (P : List ℕ → Type 0) (xs ys : List (List ℕ)) → IsAmong xs ys → AllByRecursion P ys → AllByRecursion P xs
unfolding IsAmong
among_all P (x ∷ xs) (y ∷ ys) (inl (e, is)) all = (subst P (sym e) all.0, among_all P xs ys is all.1)
among_all P (x ∷ xs) (y ∷ ys) (inr is) all = among_all P (x ∷ xs) ys is all.1
among_all P xs ys is all = grind arith

among_distinct : (xs ys : List (List ℕ)) → IsAmong xs ys → IsDistinct bytes_eq ys → IsDistinct bytes_eq xs
unfolding IsAmong IsDistinct
among_distinct (x ∷ xs) (y ∷ ys) (inl (e, is)) distinct = grind (arith, among_distinct xs ys is distinct.1, among_all)
among_distinct (x ∷ xs) (y ∷ ys) (inr is) distinct = among_distinct (x ∷ xs) ys is distinct.1
among_distinct xs ys is distinct = grind arith

among_held : (name : List ℕ) (xs ys : List (List ℕ)) → IsAmong xs ys → Among name xs → Among name ys
unfolding IsAmong Among
among_held name (x ∷ xs) (y ∷ ys) (inl (e, is)) (inl same) = inl (same ∙ e)
among_held name (x ∷ xs) (y ∷ ys) (inl (e, is)) (inr held) = inr (among_held name xs ys is held)
among_held name (x ∷ xs) (y ∷ ys) (inr is) held = inr (among_held name (x ∷ xs) ys is held)
among_held name xs ys is held = grind arith

entries_claim : (addresses : List SectionAddress) (entries : List Entry) → IsAmong (map (λ (d : SymbolDefinition). d.name) (filter_map (defined_by_entry addresses) entries)) (filter_map claimed_name entries)
unfolding IsAmong
entries_claim addresses [] = tt
entries_claim addresses (Auxiliary bytes ∷ entries) = entries_claim addresses entries
entries_claim addresses (ASymbol s ∷ entries) = grind (arith, entries_claim addresses entries, defined_is_claimed, among_skip)

objects_claim : (objects : List Object) (b : Bases) → IsAmong (map (λ (d : SymbolDefinition). d.name) (definitions (placed_from b objects))) (flat_map claimed_names objects)
unfolding IsAmong
objects_claim [] b = tt
objects_claim (o ∷ objects) b =
    let addresses = section_addresses_of b o.sections in
    let own : List SymbolDefinition = filter_map (defined_by_entry addresses) o.entries in
    let others : List SymbolDefinition = definitions (placed_from (ends_after b o.sections) objects) in
    subst (λ names. IsAmong names (claimed_names o ++ flat_map claimed_names objects)) (sym (map-append (λ (d : SymbolDefinition). d.name) own others))
    (among_append (map (λ (d : SymbolDefinition). d.name) own) (claimed_names o) (map (λ (d : SymbolDefinition). d.name) others) (flat_map claimed_names objects)
    (entries_claim addresses o.entries) (objects_claim objects (ends_after b o.sections)))

-- Parts, one after another.

module _ (machine : MachineType) (linked : List Placed) (image : List Range) (low : AllByRecursion (λ r. 0 < r.start) image) (high : AllByRecursion (λ r. range_end r < 2 ^ 31) image) where
  abbrev blocks_of : List Part → List Block
  blocks_of parts = map (λ (p : Part). p.table) parts

  -- what is known of parts that are placed from bases on, with other objects after them
  record PartsLink (b : Bases) (parts : List Part) (later : List Object) : Type 0 where
    pub behind : Bases
    pub aligned : AreAligned behind
    pub located : LocatedFrom machine linked image behind later
    pub directory : BytesAt image behind.descriptors (zeros 20) → DirectoryAt image (thunk_width machine) b.descriptors (map imported_by_block (blocks_of parts))
    pub at : (i j : ℕ) (p : Part) (o : Object) (e : TableEntry) → slice_get parts i ≡ Some p → slice_get p.objects (suc j) ≡ Some o → slice_get p.table.entries j ≡ Some e →
        IsEntryPlaced machine linked image low high b (objects_of_parts parts ++ later) o (b.addresses + thunk_width machine * entries_until i (blocks_of parts) + thunk_width machine * j)
    pub fields : (i : ℕ) (x : Block) → slice_get (blocks_of parts) i ≡ Some x → NumberAt image 4 (b.descriptors + 20 * i + 16) (b.addresses + thunk_width machine * entries_until i (blocks_of parts))
    pub symbols : (i j : ℕ) (x : Block) (e : TableEntry) (name : List ℕ) → slice_get (blocks_of parts) i ≡ Some x → slice_get x.entries j ≡ Some e → e.symbol ≡ Some name →
        definitions_of name linked ≡ record { name = name; address = Some (b.addresses + thunk_width machine * entries_until i (blocks_of parts) + thunk_width machine * j) } ∷ []

  one_part : (objects : List Object) (table : Block) (b : Bases) (later : List Object) → BeginWithHead machine objects table → AllByRecursion HoldsFields objects → AreAligned b →
      LocatedFrom machine linked image b (objects ++ later) → ((d : SymbolDefinition) → Among d (definitions (placed_from b (objects ++ later))) → definitions_of d.name linked ≡ d ∷ []) →
      PartLinks machine linked image low high b objects later table.dll table.entries
  unfolding BeginWithHead
  one_part [] table b later is sized level located only = absurd is
  one_part (o ∷ objects) table b later is sized level located only = part_links machine linked image low high o objects later table.dll table.entries b level sized located is.0 is.1 only

  parts_link : (parts : List Part) (b : Bases) (later : List Object) → AllByRecursion (IsPart machine) parts → AreAligned b → LocatedFrom machine linked image b (objects_of_parts parts ++ later) →
      ((d : SymbolDefinition) → Among d (definitions (placed_from b (objects_of_parts parts ++ later))) → definitions_of d.name linked ≡ d ∷ []) → PartsLink b parts later
  unfolding DirectoryAt
  parts_link [] b later are level located only = grind (arith, located)
  parts_link (p ∷ parts) b later (is, are) level located only =
      let rest : List Object = objects_of_parts parts ++ later in
      let joined : (p.objects ++ objects_of_parts parts) ++ later ≡ p.objects ++ rest = append_assoc p.objects (objects_of_parts parts) later in
      let next : Bases = ends_behind b p.objects in
      let all_located : LocatedFrom machine linked image b (p.objects ++ rest) = subst (LocatedFrom machine linked image b) joined located in
      let all_only = subst (λ os. (d : SymbolDefinition) → Among d (definitions (placed_from b os)) → definitions_of d.name linked ≡ d ∷ []) joined only in
      let one = one_part p.objects p.table b rest is.objects is.sized level all_located all_only in
      let behind : List SymbolDefinition = definitions (placed_from next rest) in
      let others = parts_link parts next later are one.aligned (located_behind machine linked image b p.objects rest is.sized all_located)
      (λ d m. all_only d (subst (Among d) (sym (grind (arith, placed_parts, flat_map-append))) (among_back d (definitions (placed_from b p.objects)) behind m))) in
      record {
        behind = others.behind;
        aligned = others.aligned;
        located = others.located;
        directory = λ null. (one.loads.loads, subst (λ n. DirectoryAt image (thunk_width machine) n (map imported_by_block (blocks_of parts))) one.descriptors_end (others.directory null));
        at = places one others.at;
        fields = fields one others.fields;
        symbols = symbols one others.symbols;
      }
    where
      places : PartLinks machine linked image low high b p.objects (objects_of_parts parts ++ later) p.table.dll p.table.entries →
          ((i j : ℕ) (x : Part) (o : Object) (e : TableEntry) → slice_get parts i ≡ Some x → slice_get x.objects (suc j) ≡ Some o → slice_get x.table.entries j ≡ Some e →
          IsEntryPlaced machine linked image low high (ends_behind b p.objects) (objects_of_parts parts ++ later) o ((ends_behind b p.objects).addresses + thunk_width machine * entries_until i (blocks_of parts) + thunk_width machine * j)) →
          (i j : ℕ) (x : Part) (o : Object) (e : TableEntry) → slice_get (p ∷ parts) i ≡ Some x → slice_get x.objects (suc j) ≡ Some o → slice_get x.table.entries j ≡ Some e →
          IsEntryPlaced machine linked image low high b ((p.objects ++ objects_of_parts parts) ++ later) o (b.addresses + thunk_width machine * entries_until i (p.table ∷ blocks_of parts) + thunk_width machine * j)
      places one rest zero j x o e is held asked = grind (arith, append_assoc p.objects (objects_of_parts parts) later, plus_zero b.addresses (thunk_width machine), only)
      places one rest (suc i) j x o e is held asked = grind (arith, append_assoc, placed_parts, among_back, ends_behind, entries_until, table_sum, only, rest i j x o e is held asked)

      fields : PartLinks machine linked image low high b p.objects (objects_of_parts parts ++ later) p.table.dll p.table.entries →
          ((i : ℕ) (x : Block) → slice_get (blocks_of parts) i ≡ Some x →
          NumberAt image 4 ((ends_behind b p.objects).descriptors + 20 * i + 16) ((ends_behind b p.objects).addresses + thunk_width machine * entries_until i (blocks_of parts))) →
          (i : ℕ) (x : Block) → slice_get (p.table ∷ blocks_of parts) i ≡ Some x → NumberAt image 4 (b.descriptors + 20 * i + 16) (b.addresses + thunk_width machine * entries_until i (p.table ∷ blocks_of parts))
      fields one rest zero x is =
          subst (λ n. NumberAt image 4 n (b.addresses + thunk_width machine * 0)) (omega arith)
          (subst (NumberAt image 4 (b.descriptors + 16)) (one.loads.table_located ∙ plus_zero b.addresses (thunk_width machine)) one.loads.loads.plain.addresses_field)
      fields one rest (suc i) x is =
          subst (λ n. NumberAt image 4 n (b.addresses + thunk_width machine * (length p.table.entries + 1 + entries_until i (blocks_of parts)))) (grind (arith, plus_sum))
          (subst (NumberAt image 4 ((ends_behind b p.objects).descriptors + 20 * i + 16)) (grind (arith, entries_until, table_sum)) (rest i x is))

      symbols : PartLinks machine linked image low high b p.objects (objects_of_parts parts ++ later) p.table.dll p.table.entries →
          ((i j : ℕ) (x : Block) (e : TableEntry) (name : List ℕ) → slice_get (blocks_of parts) i ≡ Some x → slice_get x.entries j ≡ Some e → e.symbol ≡ Some name →
          definitions_of name linked ≡ record { name = name; address = Some ((ends_behind b p.objects).addresses + thunk_width machine * entries_until i (blocks_of parts) + thunk_width machine * j) } ∷ []) →
          (i j : ℕ) (x : Block) (e : TableEntry) (name : List ℕ) → slice_get (p.table ∷ blocks_of parts) i ≡ Some x → slice_get x.entries j ≡ Some e → e.symbol ≡ Some name →
          definitions_of name linked ≡ record { name = name; address = Some (b.addresses + thunk_width machine * entries_until i (p.table ∷ blocks_of parts) + thunk_width machine * j) } ∷ []
      symbols one rest zero j x e name is asked named = grind (arith, plus_zero)
      symbols one rest (suc i) j x e name is asked named = rw (rest i j x e name is asked named, one.addresses_end, table_sum b.addresses (thunk_width machine) (length p.table.entries + 1) (entries_until i (blocks_of parts)))

-- The law.

module _ (machine : MachineType) (b : Bases) (parts : List Part) (objects : List Object) (are : AllByRecursion (IsPart machine) parts) (program : IsProgramOfParts machine b parts objects) where
  abbrev linked : List Placed
  linked = placed_from b objects

  abbrev image : List Range
  image = image_of machine b (placed_from b objects)

  abbrev kept : List Object
  kept = objects_of_parts parts ++ null_descriptor ∷ []

  group_located : (group : Group) → BytesAt image (base_of group b) (filled (base_of group b) (contributions machine linked group linked)) →
      BytesAt image (base_of group b) (filled (base_of group b) (contributions machine linked group (placed_from b kept)))
  group_located group located = grind (arith, contributions_kept machine linked group b objects, located)

  located : LocatedFrom machine linked image b kept
  located = grind (
    arith,
    each_located machine b objects program.admissible,
    group_located Descriptors (each_located machine b objects program.admissible).descriptors,
    group_located Lookups (each_located machine b objects program.admissible).lookups,
    group_located Addresses (each_located machine b objects program.admissible).addresses,
    group_located HintNames (each_located machine b objects program.admissible).hint_names,
    group_located DllNames (each_located machine b objects program.admissible).dll_names,
  )

  claimed : flat_map claimed_names kept ≡ names_of_parts parts
  claimed = flat_map-append claimed_names (objects_of_parts parts) (null_descriptor ∷ []) ∙ append-nil (names_of_parts parts)

  among : IsAmong (map (λ (d : SymbolDefinition). d.name) (definitions (placed_from b kept))) (names_of_parts parts)
  among = subst (IsAmong (map (λ (d : SymbolDefinition). d.name) (definitions (placed_from b kept)))) claimed (objects_claim kept b)

  only : (d : SymbolDefinition) → Among d (definitions (placed_from b kept)) → definitions_of d.name linked ≡ d ∷ []
  only d m =
      let names : List (List ℕ) = names_of_parts parts in
      let defined : List SymbolDefinition = definitions (placed_from b kept) in
      let listed : Among d.name names = among_held d.name (map (λ (x : SymbolDefinition). x.name) defined) names among (among_map (λ (x : SymbolDefinition). x.name) d defined m) in
      definitions_kept d.name b objects (all_claim d.name names listed (filter (λ o. not (has_tables o)) objects) program.others)
      ∙ ap (λ os. definitions_of d.name (placed_from b os)) program.tables
      ∙ only_definition d defined m (among_distinct (map (λ (x : SymbolDefinition). x.name) defined) names among program.distinct)

  links : PartsLink machine linked image (starts machine b objects program.admissible) (ends machine b objects program.admissible) b parts (null_descriptor ∷ [])
  links = grind (arith, parts_link, starts, ends, even, located, only)

  pub parts_tables : AreTables machine (tables_at machine b objects (map (λ (p : Part). p.table) parts))
  parts_tables =
      are_packed machine image linked b.descriptors b.addresses (map (λ (p : Part). p.table) parts) (starts machine b objects program.admissible) (ends machine b objects program.admissible)
      (links.directory (null_located machine linked image links.behind links.aligned links.located)) links.fields links.symbols

  -- an object of a part that is placed, and what it defines
  pub entry_placed : (i j : ℕ) (p : Part) (o : Object) (e : TableEntry) → slice_get parts i ≡ Some p → slice_get p.objects (suc j) ≡ Some o → slice_get p.table.entries j ≡ Some e →
      IsEntryPlaced machine linked image (starts machine b objects program.admissible) (ends machine b objects program.admissible) b (objects_of_parts parts ++ null_descriptor ∷ []) o
      (b.addresses + thunk_width machine * entries_until i (map (λ (x : Part). x.table) parts) + thunk_width machine * j)
  entry_placed = links.at

  pub kept_is_linked : (q : Placed) → Among q (placed_from b (objects_of_parts parts ++ null_descriptor ∷ [])) → Among q (placed_from b objects)
  kept_is_linked q m = grind (arith, placed_kept b objects, among_filter)

  pub defined_once : (q : Placed) (d : SymbolDefinition) → Among q (placed_from b (objects_of_parts parts ++ null_descriptor ∷ [])) → Among d (defined_by q) → definitions_of d.name (placed_from b objects) ≡ d ∷ []
  defined_once q d m held = only d (among_flat defined_by q (placed_from b (objects_of_parts parts ++ null_descriptor ∷ [])) d m held)
