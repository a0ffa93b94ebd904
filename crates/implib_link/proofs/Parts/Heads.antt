-- What the objects of a part give in an image: a descriptor that a strict loader takes, and its tables.
use Rattle.std.proofs.Common.{◌≡◌, ℕ, zero, suc, ◌+◌, ◌*◌, ◌%◌, ◌^◌, ◌<◌, true, List, [], ◌∷◌, ◌++◌, length, map, Option, Some, None, refl, ap, sym, ◌∙◌, subst, inl, inr, arith, if◌then◌else◌}
use Rattle.std.proofs.lemmas.Grind.{common_steps}
use Rattle.std.specs.Prelude.{◌&&◌, ◌==◌, bytes_eq, slice_get}
use Rattle.std.specs.List.{AllByRecursion, filter_map, list_any}
use Rattle.std.specs.Option.{option_and_then}
use Rattle.std.proofs.lemmas.Bool.{and_parts, cases_Bool, eqb-true}
use Rattle.std.proofs.lemmas.List.{append_assoc}
use Rattle.std.proofs.lemmas.Slice.Eq.{bytes_eq-Decides}
use Rattle.implib.specs.declared.coff.object.Relocation.{Relocation}
use Rattle.implib.specs.declared.machine.MachineType.{MachineType}
use Rattle.implib.specs.Formats.Bytes.{u32_bytes}
use Rattle.implib.specs.Formats.File.{is_defined_external}
use Rattle.implib.specs.Formats.Object.{ASymbol, Auxiliary, Entry, Object, ObjectSection, before_nul, section_numbered, u32_at}
use Rattle.implib.specs.Import.{Ask}
use Rattle.implib.specs.Link.Image.{Range, range_end, relocated, with_address}
use Rattle.implib.specs.Link.Load.{BytesAt, TableAt, TextAt, WholeTableAt}
use Rattle.implib.specs.Link.Placement.{Addresses, Bases, Descriptors, Group, Lookups, Placed, base_of, ends_after, placed_from, section_addresses_of}
use Rattle.implib.specs.Link.Resolution.{SymbolDefinition, address_in, address_or_zero, defined_by_entry, definitions, definitions_of, first_address, is_undefined_external, symbol_address, target_address}
use Rattle.implib.specs.Members.ImportTables.{thunk_width, zeros}
use Rattle.implib.proofs.Link.Descriptors.{LoadsFrom, descriptor_loads}
use Rattle.implib.proofs.Link.Linked.{LocatedFrom}
use Rattle.implib.proofs.Link.Placement.{AreAligned, aligned_thunk}
use Rattle.implib.proofs.Link.Ranges.{Among, among_back, among_first, among_front, among_later, located_parts}
use Rattle.implib.proofs.Link.Thunks.{StrictTableAt}
use Rattle.implib_link.specs.Flavors.Program.{sections_end}
use Rattle.implib_link.specs.Parts.{AreEntries, IsHead, Row, ask_of, begins, dll_text, entry_name, is_field, is_in_group, named_bytes, names_entry, only_section, row_in, row_of, sections_of}
use Rattle.implib_link.specs.Tables.{TableEntry}
use Rattle.implib_link.proofs.Gnu.Packed.{end_of_sections, ends_behind, located_behind, IsSized}
use Rattle.implib_link.proofs.Parts.Texts.{none_ends, one_address, one_ends, one_is, ended_is, named_located, null_located, only_located, thunk_located, field_is}
use Rattle.implib_link.proofs.Gnu.Loaded.{plus_none, times_next, times_none}
use Rattle.implib_link.proofs.Flavors.Program.{later_even}
use Rattle.implib_link.proofs.Gnu.Filling.{zero_table, table_with}

-- The address of a symbol in the only section of a group.
module _ (group : Group) (o : Object) (b : Bases) (s : ObjectSection) (is : only_section group o ≡ Some s) (even : base_of group b % 4 ≡ 0) where
  pub group_address : (number value : ℕ) → is_in_group group (section_numbered o.sections number) ≡ true → address_in (section_addresses_of b o.sections) number value ≡ Some (base_of group b + value)
  group_address number value own = grind (arith, one_is, one_address)

-- an entry's symbol is defined there
entry_defined : (o : Object) (b : Bases) (s : ObjectSection) → only_section Addresses o ≡ Some s → b.addresses % 4 ≡ 0 → (name : List ℕ) (entries : List Entry) → list_any (bytes_eq name) (filter_map (entry_name o.sections) entries) ≡ true →
    Among (record { name = name; address = Some b.addresses }) (filter_map (defined_by_entry (section_addresses_of b o.sections)) entries)
entry_defined o b s is even name [] held = cc
entry_defined o b s is even name (Auxiliary bytes ∷ entries) held = entry_defined o b s is even name entries held
entry_defined o b s is even name (ASymbol x ∷ entries) held =
    elim (cases_Bool (is_defined_external x && ((x.value == 0) && is_in_group Addresses (section_numbered o.sections x.section)))) [
      | inl all ↦
          let parts = and_parts (is_defined_external x) ((x.value == 0) && is_in_group Addresses (section_numbered o.sections x.section)) all in
          let at = and_parts (x.value == 0) (is_in_group Addresses (section_numbered o.sections x.section)) parts.1 in
          let place : address_in (section_addresses_of b o.sections) x.section x.value ≡ Some b.addresses = grind (arith, group_address, eqb-true, plus_none) in
          elim (cases_Bool (bytes_eq name x.name)) [
            | inl same ↦ grind (arith, bytes_eq-Decides, among_first)
            | inr other ↦ rw parts.0 (among_later _ _ _ (entry_defined o b s is even name entries (rw other at (rw all at held))))
          ]
      | inr other ↦ grind (arith, entry_defined o b s is even name entries (rw other at held), held, among_later)
    ]

pub has_section : (machine : MachineType) (o : Object) (ask : Ask) (found : Option ObjectSection) → option_and_then (λ (s : ObjectSection). ask_of machine o s.bytes s.relocations) found ≡ Some ask →
    (s : ObjectSection) × (found ≡ Some s)
has_section machine o ask found is = grind arith

next_table : (a w n : ℕ) → a + w + w * (n + 1) ≡ a + w * (suc n + 1)
next_table a w n = let count : suc (n + 1) ≡ suc n + 1 = omega arith in times_next a w (n + 1) ∙ ap (λ k. a + w * k) count

module _ (machine : MachineType) (linked : List Placed) (image : List Range) (starts : AllByRecursion (λ r. 0 < r.start) image) (ends : AllByRecursion (λ r. range_end r < 2 ^ 31) image) where
  located_next : (o : Object) (b : Bases) (rest : List Object) → IsSized o → LocatedFrom machine linked image b (o ∷ rest) → LocatedFrom machine linked image (ends_after b o.sections) rest
  unfolding ends_behind
  located_next o b rest sized located = located_behind machine linked image b (o ∷ []) rest (sized, tt) located

  -- what the last of objects defines with a text
  texts_named : (name bytes : List ℕ) (objects later : List Object) (b : Bases) → AllByRecursion IsSized objects → LocatedFrom machine linked image b (objects ++ later) → named_bytes name objects ≡ Some bytes →
      (a : ℕ) × (Among (record { name = name; address = Some a }) (definitions (placed_from b (objects ++ later))) × BytesAt image a bytes)
  texts_named name bytes (o ∷ q ∷ objects) later b sized located is =
      grind (arith, texts_named name bytes (q ∷ objects) later (ends_after b o.sections) sized.1 (located_next o b (q ∷ objects ++ later) sized.0 located) is, located_next, among_back)
  texts_named name bytes objects later b sized located is = grind (arith, named_located, among_front)

  -- an object with an entry, placed among others that are placed from bases on
  pub record IsEntryPlaced (b : Bases) (all : List Object) (o : Object) (address : ℕ) : Type 0 where
    pub bases : Bases
    pub held : Among (record { object = o; section_addresses = section_addresses_of bases o.sections }) (placed_from b all)
    pub aligned : AreAligned bases
    pub addresses : bases.addresses ≡ address
    pub section : ObjectSection
    pub only : only_section Addresses o ≡ Some section

  -- Entries and the tail.
  record TablesFrom (b : Bases) (objects later : List Object) (entries : List TableEntry) : Type 0 where
    lookups : StrictTableAt image (thunk_width machine) b.lookups (map (λ (e : TableEntry). e.ask) entries)
    addresses : StrictTableAt image (thunk_width machine) b.addresses (map (λ (e : TableEntry). e.ask) entries)
    symbols : (j : ℕ) (e : TableEntry) (name : List ℕ) → slice_get entries j ≡ Some e → e.symbol ≡ Some name →
        Among (record { name = name; address = Some (b.addresses + thunk_width machine * j) }) (definitions (placed_from b (objects ++ later)))
    at : (j : ℕ) (o : Object) (e : TableEntry) → slice_get objects j ≡ Some o → slice_get entries j ≡ Some e → IsEntryPlaced b (objects ++ later) o (b.addresses + thunk_width machine * j)
    aligned : AreAligned (ends_behind b objects)
    descriptors_end : (ends_behind b objects).descriptors ≡ b.descriptors
    addresses_end : (ends_behind b objects).addresses ≡ b.addresses + thunk_width machine * (length entries + 1)

  aligned_one : (o : Object) (b : Bases) → AreAligned b → sections_of Descriptors o.sections ≡ [] → sections_end Lookups b.lookups o.sections ≡ b.lookups + thunk_width machine →
      sections_end Addresses b.addresses o.sections ≡ b.addresses + thunk_width machine → AreAligned (ends_after b o.sections)
  aligned_one o b even none lookups addresses =
      grind (arith, end_of_sections Descriptors b o.sections, none_ends Descriptors o.sections b.descriptors none, end_of_sections Lookups b o.sections, aligned_thunk machine b.lookups even.lookups, end_of_sections Addresses b o.sections, aligned_thunk machine b.addresses even.addresses)

  tables_from : (objects later : List Object) (entries : List TableEntry) (b : Bases) → AreAligned b → AllByRecursion IsSized objects → LocatedFrom machine linked image b (objects ++ later) →
      AreEntries machine objects entries → TablesFrom b objects later entries
  unfolding AreEntries ends_behind TableAt WholeTableAt
  tables_from [] later entries b even sized located are = absurd are
  tables_from (o ∷ q ∷ objects) later [] b even sized located are = absurd are
  tables_from (o ∷ []) later [] b even sized located are =
      let lookup = null_located machine linked image starts ends o b later sized.0 located Lookups tt even.lookups are.lookup in
      let address = null_located machine linked image starts ends o b later sized.0 located Addresses tt even.addresses are.address in
      record {
        lookups = zero_table machine image b.lookups lookup.0;
        addresses = zero_table machine image b.addresses address.0;
        symbols = λ j e name is named. cc;
        at = λ j q e is asked. cc;
        aligned = aligned_one o b even are.descriptors lookup.1 address.1;
        descriptors_end = end_of_sections Descriptors b o.sections ∙ none_ends Descriptors o.sections b.descriptors are.descriptors;
        addresses_end = end_of_sections Addresses b o.sections ∙ address.1 ∙ (omega arith);
      }
  tables_from (o ∷ objects) later (e ∷ entries) b even sized located (entry, others) =
      let lookup = thunk_located machine linked image starts ends o b (objects ++ later) sized.0 located Lookups e.ask tt even.lookups entry.lookup in
      let address = thunk_located machine linked image starts ends o b (objects ++ later) sized.0 located Addresses e.ask tt even.addresses entry.address in
      let next : Bases = ends_after b o.sections in
      let addresses_are : next.addresses ≡ b.addresses + thunk_width machine = end_of_sections Addresses b o.sections ∙ address.1 in
      let rest = tables_from objects later entries next (aligned_one o b even entry.descriptors lookup.1 address.1) sized.1 (located_next o b (objects ++ later) sized.0 located) others in
      let lookups = subst (λ n. StrictTableAt image (thunk_width machine) n (map (λ (e : TableEntry). e.ask) entries)) (end_of_sections Lookups b o.sections ∙ lookup.1) rest.lookups in
      let addresses = subst (λ n. StrictTableAt image (thunk_width machine) n (map (λ (e : TableEntry). e.ask) entries)) addresses_are rest.addresses in
      record {
        lookups = table_with image (thunk_width machine) b.lookups e.ask (map (λ (e : TableEntry). e.ask) entries) lookup.0 lookups;
        addresses = table_with image (thunk_width machine) b.addresses e.ask (map (λ (e : TableEntry). e.ask) entries) address.0 addresses;
        symbols = symbols addresses_are rest.symbols;
        at = at addresses_are rest.at;
        aligned = rest.aligned;
        descriptors_end = rest.descriptors_end ∙ end_of_sections Descriptors b o.sections ∙ none_ends Descriptors o.sections b.descriptors entry.descriptors;
        addresses_end = rest.addresses_end ∙ ap (λ n. n + thunk_width machine * (length entries + 1)) addresses_are ∙ next_table b.addresses (thunk_width machine) (length entries);
      }
    where
      symbols : (ends_after b o.sections).addresses ≡ b.addresses + thunk_width machine →
          ((j : ℕ) (e : TableEntry) (name : List ℕ) → slice_get entries j ≡ Some e → e.symbol ≡ Some name →
          Among (record { name = name; address = Some ((ends_after b o.sections).addresses + thunk_width machine * j) }) (definitions (placed_from (ends_after b o.sections) (objects ++ later)))) →
          (j : ℕ) (x : TableEntry) (name : List ℕ) → slice_get (e ∷ entries) j ≡ Some x → x.symbol ≡ Some name →
          Among (record { name = name; address = Some (b.addresses + thunk_width machine * j) }) ((filter_map (defined_by_entry (section_addresses_of b o.sections)) o.entries) ++ (definitions (placed_from (ends_after b o.sections) (objects ++ later))))
      symbols same rest zero x name is named =
          let own_entry : e ≡ x = cc in
          let section = has_section machine o e.ask (only_section Addresses o) entry.address in
          let here = entry_defined o b section.0 section.1 even.addresses name o.entries (subst (λ found. names_entry o found ≡ true) (ap (λ (y : TableEntry). y.symbol) own_entry ∙ named) entry.symbol) in
          subst (λ n. Among (record { name = name; address = Some n }) ((filter_map (defined_by_entry (section_addresses_of b o.sections)) o.entries) ++ (definitions (placed_from (ends_after b o.sections) (objects ++ later))))) (times_none b.addresses (thunk_width machine)) (among_front _ (filter_map (defined_by_entry (section_addresses_of b o.sections)) o.entries) (definitions (placed_from (ends_after b o.sections) (objects ++ later))) here)
      symbols same rest (suc j) x name is named =
          among_back _ (filter_map (defined_by_entry (section_addresses_of b o.sections)) o.entries) (definitions (placed_from (ends_after b o.sections) (objects ++ later)))
          (subst (λ n. Among (record { name = name; address = Some n }) (definitions (placed_from (ends_after b o.sections) (objects ++ later))))
          (ap (λ n. n + thunk_width machine * j) same ∙ times_next b.addresses (thunk_width machine) j) (rest j x name is named))

      at : (ends_after b o.sections).addresses ≡ b.addresses + thunk_width machine →
          ((j : ℕ) (q : Object) (e : TableEntry) → slice_get objects j ≡ Some q → slice_get entries j ≡ Some e →
          IsEntryPlaced (ends_after b o.sections) (objects ++ later) q ((ends_after b o.sections).addresses + thunk_width machine * j)) →
          (j : ℕ) (q : Object) (x : TableEntry) → slice_get (o ∷ objects) j ≡ Some q → slice_get (e ∷ entries) j ≡ Some x → IsEntryPlaced b (o ∷ (objects ++ later)) q (b.addresses + thunk_width machine * j)
      at same rest zero q x is asked =
          grind (arith, has_section machine o e.ask (only_section Addresses o) entry.address, among_first, times_none)
      at same rest (suc j) q x is asked =
          grind (arith, rest j q x is asked, among_later, times_next)

  -- The head.
  module _ (o : Object) (b : Bases) (rest : List Object) (sized : IsSized o) (even : AreAligned b) (located : LocatedFrom machine linked image b (o ∷ rest)) where
    abbrev p : Placed
    p = record { object = o; section_addresses = section_addresses_of b o.sections }

    abbrev filled_row : ℕ → ℕ → ℕ → List ℕ
    filled_row lookups name addresses =
        u32_bytes ((0 + lookups) % 2 ^ 32) ++ (zeros 4 ++ (zeros 4 ++ (u32_bytes ((0 + name) % 2 ^ 32) ++ u32_bytes ((0 + addresses) % 2 ^ 32))))

    in_order : (r q n : Relocation) → (is_field machine 0 r && (is_field machine 12 q && is_field machine 16 n)) ≡ true →
        relocated machine linked p (r ∷ q ∷ n ∷ []) (zeros 20) ≡ filled_row (target_address linked p r.symbol) (target_address linked p q.symbol) (target_address linked p n.symbol)
    unfolding with_address u32_bytes u32_at
    in_order r q n are =
        let first = and_parts (is_field machine 0 r) (is_field machine 12 q && is_field machine 16 n) are in
        let later = and_parts (is_field machine 12 q) (is_field machine 16 n) first.1 in
        let x = field_is machine 0 r first.0 in
        let y = field_is machine 12 q later.0 in
        let z = field_is machine 16 n later.1 in
        rw (x.0, y.0, z.0, x.1, y.1, z.1) refl

    name_last : (r q n : Relocation) → (is_field machine 0 r && (is_field machine 16 q && is_field machine 12 n)) ≡ true →
        relocated machine linked p (r ∷ q ∷ n ∷ []) (zeros 20) ≡ filled_row (target_address linked p r.symbol) (target_address linked p n.symbol) (target_address linked p q.symbol)
    unfolding with_address u32_bytes u32_at
    name_last r q n are =
        let first = and_parts (is_field machine 0 r) (is_field machine 16 q && is_field machine 12 n) are in
        let later = and_parts (is_field machine 16 q) (is_field machine 12 n) first.1 in
        let x = field_is machine 0 r first.0 in
        let y = field_is machine 16 q later.0 in
        let z = field_is machine 12 n later.1 in
        rw (x.0, y.0, z.0, x.1, y.1, z.1) refl

    row_filled : (relocations : List Relocation) (row : Row) → row_of machine relocations ≡ Some row →
        relocated machine linked p relocations (zeros 20) ≡ filled_row (target_address linked p row.lookups) (target_address linked p row.name) (target_address linked p row.addresses)
    row_filled [] row is = cc
    row_filled (r ∷ []) row is = cc
    row_filled (r ∷ q ∷ []) row is = cc
    row_filled (r ∷ q ∷ n ∷ []) row is = grind (arith, common_steps, cases_Bool, in_order, name_last)
    row_filled (r ∷ q ∷ n ∷ m ∷ relocations) row is = cc

    -- the descriptor
    row_located : (row : Row) → row_in machine o ≡ Some row →
        BytesAt image b.descriptors (filled_row (target_address linked p row.lookups) (target_address linked p row.name) (target_address linked p row.addresses))
        × (sections_end Descriptors b.descriptors o.sections ≡ b.descriptors + 20)
    row_located row is = go (only_section Descriptors o) refl is
      where
        go : (found : Option ObjectSection) → only_section Descriptors o ≡ found → option_and_then (λ (s : ObjectSection). if bytes_eq s.bytes (zeros 20) then row_of machine s.relocations else None) found ≡ Some row →
            BytesAt image b.descriptors (filled_row (target_address linked p row.lookups) (target_address linked p row.name) (target_address linked p row.addresses))
            × (sections_end Descriptors b.descriptors o.sections ≡ b.descriptors + 20)
        go None at is = cc
        go (Some s) at is =
            elim (cases_Bool (bytes_eq s.bytes (zeros 20))) [
              | inl blank ↦ grind (arith, bytes_eq-Decides, row_filled, (only_located machine linked image starts ends o b rest sized located Descriptors s tt at even.descriptors))
              | inr other ↦ let none : None ≡ Some row = rw other at is in cc
            ]

    -- where a table begins
    pub begin_of : (group : Group) (index : ℕ) → base_of group b % 4 ≡ 0 → begins group o index ≡ true → (target_address linked p index ≡ base_of group b) × (sections_end group (base_of group b) o.sections ≡ base_of group b)
    begin_of group index level is = grind (arith, common_steps, and_parts, group_address, eqb-true, plus_none, cases_Bool, bytes_eq-Decides, one_is, one_ends)

    name_found : (dll : List ℕ) (others later : List Object) (found : Option Entry) → AllByRecursion IsSized others → LocatedFrom machine linked image (ends_after b o.sections) (others ++ later) →
        ((d : SymbolDefinition) → Among d (definitions (placed_from (ends_after b o.sections) (others ++ later))) → definitions_of d.name linked ≡ d ∷ []) → dll_text others found ≡ Some dll →
        (a : ℕ) × ((address_or_zero (option_and_then (symbol_address linked p) found) ≡ a) × TextAt image a dll)
    name_found dll others later None all behind only is = cc
    name_found dll others later (Some (Auxiliary bytes)) all behind only is = cc
    name_found dll others later (Some (ASymbol s)) all behind only is =
        elim (cases_Bool (is_undefined_external s)) [
          | inl left ↦ go left (named_bytes s.name others) refl (rw left at is)
          | inr own ↦ let none : None ≡ Some dll = rw own at is in cc
        ]
      where
        go : is_undefined_external s ≡ true → (found : Option (List ℕ)) → named_bytes s.name others ≡ found → option_and_then before_nul found ≡ Some dll →
            (a : ℕ) × ((address_or_zero (symbol_address linked p (ASymbol s)) ≡ a) × TextAt image a dll)
        go left None at is = cc
        go left (Some bytes) at is =
            let text = texts_named s.name bytes others later (ends_after b o.sections) all behind at in
            let once = only (record { name = s.name; address = Some text.0 }) text.1.0 in
            let ended = ended_is bytes dll is in
            let whole : bytes ≡ (dll ++ 0 ∷ []) ++ ended.0 = ended.1.0 ∙ sym (append_assoc dll (0 ∷ []) ended.0) in
            (text.0, (rw left (ap (λ ds. address_or_zero (first_address ds)) once), record { no_nul = ended.1.1; located = (located_parts image (dll ++ 0 ∷ []) ended.0 text.0 (subst (BytesAt image text.0) whole text.1.1)).0 }))

  -- a head, entries and a tail
  pub record PartLinks (b : Bases) (objects later : List Object) (dll : List ℕ) (entries : List TableEntry) : Type 0 where
    pub loads : LoadsFrom image (thunk_width machine) b.descriptors b.addresses dll (map (λ (e : TableEntry). e.ask) entries)
    pub symbols : (j : ℕ) (e : TableEntry) (name : List ℕ) → slice_get entries j ≡ Some e → e.symbol ≡ Some name →
        definitions_of name linked ≡ record { name = name; address = Some (b.addresses + thunk_width machine * j) } ∷ []
    pub at : (j : ℕ) (o : Object) (e : TableEntry) → slice_get objects (suc j) ≡ Some o → slice_get entries j ≡ Some e → IsEntryPlaced b (objects ++ later) o (b.addresses + thunk_width machine * j)
    pub aligned : AreAligned (ends_behind b objects)
    pub descriptors_end : (ends_behind b objects).descriptors ≡ b.descriptors + 20
    pub addresses_end : (ends_behind b objects).addresses ≡ b.addresses + thunk_width machine * (length entries + 1)

  pub part_links : (head : Object) (others later : List Object) (dll : List ℕ) (entries : List TableEntry) (b : Bases) → AreAligned b → AllByRecursion IsSized (head ∷ others) →
      LocatedFrom machine linked image b (head ∷ (others ++ later)) → IsHead machine head others dll → AreEntries machine others entries →
      ((d : SymbolDefinition) → Among d (definitions (placed_from b (head ∷ (others ++ later)))) → definitions_of d.name linked ≡ d ∷ []) → PartLinks b (head ∷ others) later dll entries
  unfolding ends_behind
  part_links head others later dll entries b even sized located begin are only =
      let rest : List Object = others ++ later in
      let next : Bases = ends_after b head.sections in
      let own : List SymbolDefinition = filter_map (defined_by_entry (section_addresses_of b head.sections)) head.entries in
      let behind : List SymbolDefinition = definitions (placed_from next rest) in
      let row = row_located head b rest sized.0 even located begin.row begin.fields in
      let lookups = begin_of head b rest sized.0 even located Lookups begin.row.lookups even.lookups begin.lookups in
      let addresses = begin_of head b rest sized.0 even located Addresses begin.row.addresses even.addresses begin.addresses in
      let descriptors_are : next.descriptors ≡ b.descriptors + 20 = end_of_sections Descriptors b head.sections ∙ row.1 in
      let lookups_are : next.lookups ≡ b.lookups = end_of_sections Lookups b head.sections ∙ lookups.1 in
      let addresses_are : next.addresses ≡ b.addresses = end_of_sections Addresses b head.sections ∙ addresses.1 in
      let next_located : LocatedFrom machine linked image next rest = located_next head b rest sized.0 located in
      let name = name_found head b rest sized.0 even located dll others later (slice_get head.entries begin.row.name) sized.1 next_located (λ d m. only d (among_back d own behind m)) begin.name in
      let tables = tables_from others later entries next (grind (arith, later_even, lookups, addresses)) sized.1 next_located are in
      let asks : List Ask = map (λ (e : TableEntry). e.ask) entries in
      let bytes = subst (λ x. BytesAt image b.descriptors (filled_row head b rest sized.0 even located x (target_address linked (p head b rest sized.0 even located) begin.row.name) (target_address linked (p head b rest sized.0 even located) begin.row.addresses)))
      (lookups.0 ∙ sym (plus_none b.lookups)) row.0 in
      let more = subst (λ x. BytesAt image b.descriptors (filled_row head b rest sized.0 even located (b.lookups + 0) x (target_address linked (p head b rest sized.0 even located) begin.row.addresses)))
      (name.1.0 ∙ sym (plus_none name.0)) bytes in
      let whole = subst (λ x. BytesAt image b.descriptors (filled_row head b rest sized.0 even located (b.lookups + 0) (name.0 + 0) x)) (addresses.0 ∙ sym (plus_none b.addresses)) more in
      record {
        loads =
            descriptor_loads machine image starts ends b.descriptors b.lookups b.addresses name.0 dll asks whole
            (subst (λ n. StrictTableAt image (thunk_width machine) n asks) lookups_are tables.lookups)
            (subst (λ n. StrictTableAt image (thunk_width machine) n asks) addresses_are tables.addresses) name.1.1;
        symbols = λ j e name is named.
            only (record { name = name; address = Some (b.addresses + thunk_width machine * j) })
            (among_back (record { name = name; address = Some (b.addresses + thunk_width machine * j) }) own behind
            (subst (λ n. Among (record { name = name; address = Some (n + thunk_width machine * j) }) behind) addresses_are (tables.symbols j e name is named)));
        at = λ j o e is asked.
            let found = tables.at j o e is asked in
            record {
              bases = found.bases;
              held = among_later _ _ _ found.held;
              aligned = found.aligned;
              addresses = found.addresses ∙ ap (λ n. n + thunk_width machine * j) addresses_are;
              section = found.section;
              only = found.only;
            };
        aligned = tables.aligned;
        descriptors_end = tables.descriptors_end ∙ descriptors_are;
        addresses_end = tables.addresses_end ∙ ap (λ n. n + thunk_width machine * (length entries + 1)) addresses_are;
      }
