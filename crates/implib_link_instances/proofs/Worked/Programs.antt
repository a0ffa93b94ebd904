-- Linked code by computing: what relates its bytes to the object's, its symbols' addresses, and base relocations of it.
use Rattle.std.proofs.Common.{◌≡◌, ℕ, zero, suc, ◌+◌, ◌-◌, ◌/◌, ◌%◌, ◌^◌, Bool, true, false, List, [], ◌∷◌, ◌++◌, length, map, Option, Some, None, refl, ap, sym, ◌∙◌, subst, inl, inr, arith, ◌≤◌, nat_lt, codes, ◌⊎◌}
use Rattle.std.specs.Prelude.{bytes_eq, nat_le, slice_get, ◌&&◌, ◌||◌, ◌==◌, if◌then◌else◌, not, take, drop}
use Rattle.std.specs.List.{AllByRecursion, Contains, flat_map, list_all, list_any, IsDistinct, filter}
use Rattle.std.proofs.lemmas.Bool.{and_from, and_parts, eq-eqb, eqb-true, le-leb, ne_eqb, not-true, ltb-true}
use Rattle.std.proofs.lemmas.List.Folds.{list_any-append}
use Rattle.implib.specs.declared.coff.object.Relocation.{Relocation}
use Rattle.implib.specs.declared.machine.MachineType.{MachineType}
use Rattle.implib.specs.declared.machine.MachineType.TheVariants.{I386, ARMNT, AMD64, ARM64}
use Rattle.implib.specs.Formats.Constants.{amd64_rel32, arm64_pagebase_rel21, arm64_pageoffset_12l, i386_dir32, class_external}
use Rattle.implib.specs.Formats.File.{is_defined_external}
use Rattle.implib.specs.Formats.Object.{ASymbol, Auxiliary, Entry, ObjectSection, Object, before_nul, bytes_at, data_at, each_at, entries_at, name_of, object_in, object_of_header, relocation_at, relocation_of, section_at, section_of, strings_at, symbol_of, u16_at, u32_at, up_to_nul}
use Rattle.implib.specs.Link.Image.{AllApart, Range, is_in, with_address, IsBase, image_of, IsAdmissible, AreApart, range_end}
use Rattle.implib.specs.Link.Load.{NumberAt, number_in, BytesAt}
use Rattle.implib.specs.Link.Placement.{Placed, next_multiple, Bases, placed_from}
use Rattle.implib.specs.Link.Resolution.{address_or_zero, is_undefined_external, symbol_address, target_address}
use Rattle.implib.proofs.Link.Definitions.{same_text}
use Rattle.implib.proofs.Link.LinkedMembers.{among_contains}
use Rattle.implib.proofs.Link.Loading.{number_once}
use Rattle.implib.proofs.Link.Ranges.{all_among, among_flat, range_located, apart_as_they_rise, ends_below, rise_below, Among}
use Rattle.implib_link.specs.Gnu.Fields.{amd64_addr64, arm64_addr64, arm64_branch26, field_width, i386_rel32, Amd64Holds, Arm64Holds, FieldHolds, I386Holds, IsRelocated, LinkedCode, TakesSymbols, field_at, meets, HasInstruction, IsOperand, Names, MeetsAlone, AreLinkedBeside, IsRebased, Place, absolute_width, covers, moved_number, table_places}
use Rattle.implib_link.specs.Gnu.Moves.{places_of_code, AreInMemory, AreMoved}
use Rattle.implib_link.specs.Stub.{adrp_immediate, bits_of, ldr_immediate, page, with_adrp, with_bits}
use Rattle.implib_link_instances.specs.Worked.Operands.{in_code, named_or, or_else, PassingFields, WorkedFields, WorkedOperands, amd64_rel32_1, field, imp_open, moved_memory, open_on, passing_at, passing_codes, passing_image, passing_memory, passing_objects, passing_placed, passing_places, passing_targets, stub_of_open}
use Rattle.implib_link.proofs.Gnu.Fields.{alone_among}
use Rattle.implib_link.proofs.Gnu.Loaded.{kept_outside, byte_front}
use Rattle.implib_link.proofs.Gnu.Places.{among_place}
use Rattle.implib_link.proofs.Search.Lists.{among_at, among_mapped, contains_among, each_of}
use Rattle.implib.specs.Link.LinkedMembers.{LinkInput, objects_in, all_linked}
use Rattle.std.specs.Fmt.{digits}
use Rattle.implib.specs.Machine.{is_32bit}
use Rattle.implib_link_instances.proofs.Worked.Lemmas.{touching, NotThumb, image_base, number}
use Rattle.implib.specs.Formats.Bytes.{u16_bytes, u32_bytes}
use Rattle.implib.specs.Members.Gnu.{export_object, five_digits, head_name, head_object, head_symbol, hint_name, iname_symbol, numbered_name, relocations_of_stub, relocations_of_thunk, mangled_name, stub, tail_name, tail_object, thunk}
use Rattle.implib.specs.Members.GnuMembers.{alias_specs, export_spec, head_spec, tail_spec}
use Rattle.implib.specs.Members.Members.{refusal, renamed_refusal}
use Rattle.implib.specs.Members.WeakExternal.{weak_object}
use Rattle.implib.specs.Formats.Layout.{auxiliary_bytes, auxiliary_count, contents, contents_offset, contents_size, header_bytes, encoded, encoded_size, name_field, offsets_from, pointer_or_zero, record_count, records, relocation_bytes, section_header, section_headers, string_bytes_of, string_offsets, string_size, string_table, strings_size, symbol_bytes, symbol_table_offset}
use Rattle.implib.specs.Formats.Writer.{long_names, name_location, layout_of, symbol_written, with_long_name, with_name}
use Rattle.implib_link.specs.Flavors.Program.{ClaimsNone, claimed_names, has_tables, linked_symbols, null_descriptor, IsProgram}
use Rattle.implib_link.specs.Parts.{HoldsFields}
use Rattle.implib_link_instances.specs.Worked.Programs.{WorkedProgram, WorkedPrograms, expected_4, expected_8, symbol_of_class, both_inputs, addresses_on, lld_image_on, lld_linked_on, mid_on, or_thunk, placed_object, shorts_on, taken_address, touching_4, touching_8}
use Rattle.implib_link.proofs.Flavors.Program.{gnu_objects}
use Rattle.implib.specs.Formats.ShortImport.{ShortImport, short_import_in}
use Rattle.implib_link.specs.Flavors.LldImports.{IsLldProgram, comes_first, entries_of_groups, group_entries, grouped, imp_symbols_of, imports_of_lld, in_small, put_in, put_into, short_for, ArePiecesAt, IsAskable, all_hints, all_names, built, built_bytes, descriptor_built, directory_built, hint_built, hints_built, tables_built, thunk_built, thunks_built, placed_thunk}
use Rattle.implib_link.proofs.Flavors.LldImports.{built_pieces}

-- Fields, by their types.

i386_test : ℕ → ℕ → ℕ → ℕ → (ℕ → ℕ) → (ℕ → ℕ) → Bool
i386_test type image_base position target old new =
    if type == i386_dir32 then new 4 == (old 4 + (image_base + target)) % 2 ^ 32
    else if type == i386_rel32 then new 4 == (old 4 + target + (2 ^ 32 - (position + 4) % 2 ^ 32)) % 2 ^ 32
    else true

i386_holds : (type image_base position target : ℕ) (old new : ℕ → ℕ) → i386_test type image_base position target old new ≡ true → I386Holds type image_base position target old new
unfolding i386_test
i386_holds type image_base position target old new test = record {
  dir32 = λ is. let here : (type == i386_dir32) ≡ true = eq-eqb type i386_dir32 is in eqb-true (new 4) ((old 4 + (image_base + target)) % 2 ^ 32) (rw here at test);
  rel32 = λ is. grind (arith, ne_eqb, eq-eqb, eqb-true);
}

amd64_test : ℕ → ℕ → ℕ → ℕ → (ℕ → ℕ) → (ℕ → ℕ) → Bool
amd64_test type image_base position target old new =
    if type == amd64_addr64 then new 8 == (old 8 + (image_base + target)) % 2 ^ 64
    else if nat_le amd64_rel32 type && nat_le type 9
    then new 4 == (old 4 + target + (2 ^ 32 - (position + 4 + (type - amd64_rel32)) % 2 ^ 32)) % 2 ^ 32
    else true

amd64_holds : (type image_base position target : ℕ) (old new : ℕ → ℕ) → amd64_test type image_base position target old new ≡ true → Amd64Holds type image_base position target old new
unfolding amd64_test
amd64_holds type image_base position target old new test = record {
  addr64 = λ is. let here : (type == amd64_addr64) ≡ true = eq-eqb type amd64_addr64 is in eqb-true (new 8) ((old 8 + (image_base + target)) % 2 ^ 64) (rw here at test);
  rel32 = λ further small is. grind (arith, ne_eqb, and_from, le-leb, eqb-true);
}

arm64_test : ℕ → ℕ → ℕ → ℕ → (ℕ → ℕ) → (ℕ → ℕ) → Bool
arm64_test type image_base position target old new =
    if type == arm64_addr64 then new 8 == (old 8 + (image_base + target)) % 2 ^ 64
    else if type == arm64_branch26
    then (with_bits 0 26 0 (new 4) == with_bits 0 26 0 (old 4))
    && (bits_of 0 26 (new 4) == (target + (2 ^ 28 - position % 2 ^ 28)) / 4 % 2 ^ 26)
    else if type == arm64_pagebase_rel21
    then (with_adrp 0 (new 4) == with_adrp 0 (old 4))
    && (adrp_immediate (new 4)
    == (page (image_base + target + adrp_immediate (old 4)) + (2 ^ 21 - page (image_base + position) % 2 ^ 21)) % 2 ^ 21)
    else if (type == arm64_pageoffset_12l) && (bits_of 30 2 (old 4) == 3)
    then (with_bits 10 12 0 (new 4) == with_bits 10 12 0 (old 4))
    && (bits_of 10 12 (new 4) == (image_base + target + ldr_immediate (old 4)) % 4096 / 8)
    else true

pub both_equal : (a b c d : ℕ) → ((a == b) && (c == d)) ≡ true → (a ≡ b) × (c ≡ d)
both_equal a b c d test = let parts = and_parts (a == b) (c == d) test in (eqb-true a b parts.0, eqb-true c d parts.1)

arm64_holds : (type image_base position target : ℕ) (old new : ℕ → ℕ) → arm64_test type image_base position target old new ≡ true → Arm64Holds type image_base position target old new
unfolding arm64_test
arm64_holds type image_base position target old new test = record {
  addr64 = λ is. let here : (type == arm64_addr64) ≡ true = eq-eqb type arm64_addr64 is in eqb-true (new 8) ((old 8 + (image_base + target)) % 2 ^ 64) (rw here at test);
  branch = λ is none near far. grind (arith, ne_eqb, eq-eqb, both_equal);
  page_of = λ is. grind (arith, ne_eqb, eq-eqb, both_equal);
  offset_of = λ is eight.
      let one : (type == arm64_addr64) ≡ false = ne_eqb type arm64_addr64 (λ same. omega arith) in
      let two : (type == arm64_branch26) ≡ false = ne_eqb type arm64_branch26 (λ same. omega arith) in
      let three : (type == arm64_pagebase_rel21) ≡ false = ne_eqb type arm64_pagebase_rel21 (λ same. omega arith) in
      let here : ((type == arm64_pageoffset_12l) && (bits_of 30 2 (old 4) == 3)) ≡ true = and_from (type == arm64_pageoffset_12l) (bits_of 30 2 (old 4) == 3) (eq-eqb type arm64_pageoffset_12l is) (eq-eqb (bits_of 30 2 (old 4)) 3 eight) in
      both_equal _ _ _ _ (rw (one, two, three, here) at test);
}

field_test : MachineType → ℕ → ℕ → ℕ → ℕ → (ℕ → ℕ) → (ℕ → ℕ) → Bool
field_test I386 type image_base position target old new = i386_test type image_base position target old new
field_test ARMNT type image_base position target old new = true
field_test AMD64 type image_base position target old new = amd64_test type image_base position target old new
field_test ARM64 type image_base position target old new = arm64_test type image_base position target old new

field_holds : (machine : MachineType) (type image_base position target : ℕ) (old new : ℕ → ℕ) → field_test machine type image_base position target old new ≡ true → FieldHolds machine type image_base position target old new
unfolding field_test
field_holds I386 type image_base position target old new test = i386_holds type image_base position target old new test
field_holds ARMNT type image_base position target old new test = tt
field_holds AMD64 type image_base position target old new test = amd64_holds type image_base position target old new test
field_holds ARM64 type image_base position target old new test = arm64_holds type image_base position target old new test

-- from a place on, bytes are the same where no relocation meets them
agree : MachineType → List Relocation → ℕ → List ℕ → List ℕ → Bool
agree machine rs k [] [] = true
agree machine rs k [] (y ∷ ys) = false
agree machine rs k (x ∷ xs) [] = false
agree machine rs k (x ∷ xs) (y ∷ ys) = (list_any (meets machine k 1) rs || (x == y)) && agree machine rs (k + 1) xs ys

agree_at : (machine : MachineType) (rs : List Relocation) (k : ℕ) (xs ys : List ℕ) → agree machine rs k xs ys ≡ true → (i : ℕ) → list_any (meets machine (k + i) 1) rs ≡ false → slice_get xs i ≡ slice_get ys i
unfolding agree
agree_at machine rs k [] [] test i none = refl
agree_at machine rs k [] (y ∷ ys) test i none = cc
agree_at machine rs k (x ∷ xs) [] test i none = cc
agree_at machine rs k (x ∷ xs) (y ∷ ys) test zero none = grind arith
agree_at machine rs k (x ∷ xs) (y ∷ ys) test (suc i) none = grind (arith, agree_at machine rs (k + 1) xs ys)

unfoldable pub relocated_test : MachineType → ℕ → (ℕ → ℕ) → ℕ → ObjectSection → List ℕ → Bool
unfolding agree field_test i386_test amd64_test arm64_test
relocated_test machine image_base targets position code bytes =
    (length bytes == length code.bytes) && (agree machine code.relocations 0 bytes code.bytes
    && list_all (λ (r : Relocation). field_test machine r.kind image_base (position + r.offset) (targets r.symbol) (field_at code.bytes r.offset) (field_at bytes r.offset)) code.relocations)

pub relocated_by : (machine : MachineType) (image_base : ℕ) (targets : ℕ → ℕ) (position : ℕ) (code : ObjectSection) (bytes : List ℕ) → relocated_test machine image_base targets position code bytes ≡ true →
    IsRelocated machine image_base targets position code bytes
unfolding relocated_test
relocated_by machine image_base targets position code bytes test =
    let each : Relocation → Bool = λ (r : Relocation). field_test machine r.kind image_base (position + r.offset) (targets r.symbol) (field_at code.bytes r.offset) (field_at bytes r.offset) in
    let parts = and_parts (length bytes == length code.bytes) (agree machine code.relocations 0 bytes code.bytes && list_all each code.relocations) test in
    let others = and_parts (agree machine code.relocations 0 bytes code.bytes) (list_all each code.relocations) parts.1 in
    record {
      size = eqb-true (length bytes) (length code.bytes) parts.0;
      kept = λ offset none. grind (arith, agree_at);
      fields = λ r alone inside.
          field_holds machine r.kind image_base (position + r.offset) (targets r.symbol) (field_at code.bytes r.offset) (field_at bytes r.offset)
          (each_of each r code.relocations others.1 (alone_among machine code.relocations r.offset (field_width machine r.kind) r alone));
    }

-- Symbols: those of names in code are there, the others have their addresses in the tables.

abbrev pub is_none : Option ℕ → Bool
is_none None = true
is_none (Some n) = false

abbrev pub beside_tables : MachineType → List Placed → Placed → Entry → Bool
beside_tables machine linked p (Auxiliary bytes) = true
beside_tables machine linked p (ASymbol s) = is_none (in_code machine s.name) || is_none (symbol_address linked p (ASymbol s))

abbrev pub is_at : Option ℕ → ℕ → Bool
is_at None place = false
is_at (Some n) place = n == place

abbrev pub goes_to : MachineType → List ℕ → ℕ → Entry → Bool
goes_to machine name place (Auxiliary bytes) = true
goes_to machine name place (ASymbol s) = if is_undefined_external s && bytes_eq s.name name then is_at (in_code machine s.name) place else true

abbrev pub all_go : MachineType → List Entry → LinkedCode → Entry → Bool
all_go machine wanted d (Auxiliary bytes) = true
all_go machine wanted d (ASymbol t) =
    if is_defined_external t && (t.section == d.number) then list_all (goes_to machine t.name (d.position + t.value)) wanted else true

at_value : (o : Option ℕ) (place n : ℕ) → is_at o place ≡ true → or_else o n ≡ place
at_value None place n is = cc
at_value (Some m) place n is = eqb-true m place is

table_value : (o placed : Option ℕ) (address : ℕ) → (is_none o || is_none placed) ≡ true → placed ≡ Some address → or_else o (address_or_zero placed) ≡ address
table_value None placed address check is = ap address_or_zero is
table_value (Some m) None address check is = cc
table_value (Some m) (Some n) address check is = cc

entry_value : (machine : MachineType) (linked : List Placed) (p : Placed) (x : Entry) (address : ℕ) → beside_tables machine linked p x ≡ true → symbol_address linked p x ≡ Some address →
    named_or machine (Some x) (address_or_zero (symbol_address linked p x)) ≡ address
entry_value machine linked p (Auxiliary bytes) address check is = cc
entry_value machine linked p (ASymbol s) address check is = table_value (in_code machine s.name) (symbol_address linked p (ASymbol s)) address check is

pub takes_by : (machine : MachineType) (linked : List Placed) (codes : List LinkedCode) → list_all (λ (c : LinkedCode). list_all (beside_tables machine linked c.from) c.from.object.entries) codes ≡ true →
    list_all (λ (c : LinkedCode). list_all (λ (d : LinkedCode). list_all (all_go machine c.from.object.entries d) d.from.object.entries) codes) codes ≡ true →
    TakesSymbols linked codes (λ c index. named_or machine (slice_get c.from.object.entries index) (target_address linked c.from index))
takes_by machine linked codes tables_check code_check = record {
  tables = λ c index address entry held at is. grind (arith, contains_among c codes held, among_at entry c.from.object.entries index, each_of, entry_value);
  code = λ c d index s t c_held d_held at undefined defines named.
      let wanted : List Entry = c.from.object.entries in
      let one = each_of (λ (x : LinkedCode). list_all (λ (y : LinkedCode). list_all (all_go machine x.from.object.entries y) y.from.object.entries) codes) c codes code_check (contains_among c codes c_held) in
      let two = each_of (λ (y : LinkedCode). list_all (all_go machine wanted y) y.from.object.entries) d codes one (contains_among d codes d_held) in
      let three : all_go machine wanted d (ASymbol t) ≡ true = each_of (all_go machine wanted d) (ASymbol t) d.from.object.entries two (contains_among (ASymbol t) d.from.object.entries defines.held) in
      let external : is_defined_external t ≡ true = defines.external in
      let here : (t.section == d.number) ≡ true = eq-eqb t.section d.number defines.here in
      let four : list_all (goes_to machine t.name (d.position + t.value)) wanted ≡ true = rw (external, here) at three in
      let five : goes_to machine t.name (d.position + t.value) (ASymbol s) ≡ true = each_of (goes_to machine t.name (d.position + t.value)) (ASymbol s) wanted four (among_at (ASymbol s) wanted index at) in
      let same : bytes_eq s.name t.name ≡ true = subst (λ n. bytes_eq s.name n ≡ true) (sym named) (same_text s.name) in
      let value : is_at (in_code machine s.name) (d.position + t.value) ≡ true = rw (undefined, same) at five in
      ap (λ o. named_or machine o (target_address linked c.from index)) at ∙ at_value (in_code machine s.name) (d.position + t.value) (target_address linked c.from index) value;
}

-- Base relocations: memory with ranges in front that are their fields.

abbrev pub place_of_range : Range → Place
place_of_range r = record { address = r.start; width = length r.bytes }

none_in : (a : ℕ) (fronts : List Range) → list_any (covers a) (map place_of_range fronts) ≡ false → list_any (is_in a) fronts ≡ false
none_in a [] none = refl
none_in a (r ∷ fronts) none = grind (arith, none_in a fronts)

located_front : (xs ys : List Range) (bytes : List ℕ) (a : ℕ) → BytesAt xs a bytes → BytesAt (xs ++ ys) a bytes
unfolding BytesAt
located_front xs ys [] a located = tt
located_front xs ys (b ∷ bytes) a located = (byte_front xs ys a b located.0, located_front xs ys bytes (a + 1) located.1)

pub rebased_by : (from to : ℕ) (fronts linked : List Range) → AllApart fronts →
    AllByRecursion (λ (r : Range). (n : ℕ) × (NumberAt linked (length r.bytes) r.start n × (number_in r.bytes ≡ moved_number (length r.bytes) from to n))) fronts →
    IsRebased from to (map place_of_range fronts) linked (fronts ++ linked)
rebased_by from to fronts linked apart each = record {
  moved = λ p n held there.
      let found = among_mapped place_of_range p fronts (contains_among p (map place_of_range fronts) held) in
      let r : Range = found.0 in
      let one = all_among (λ (x : Range). (n : ℕ) × (NumberAt linked (length x.bytes) x.start n × (number_in x.bytes ≡ moved_number (length x.bytes) from to n))) r fronts found.1 each in
      let was : NumberAt linked (length r.bytes) r.start n = subst (λ (q : Place). NumberAt linked q.width q.address n) found.2 there in
      let same : one.0 ≡ n = number_once linked (length r.bytes) r.start one.0 n one.1.0 was in
      subst (λ (q : Place). NumberAt (fronts ++ linked) q.width q.address (moved_number q.width from to n)) (sym found.2)
      (record {
        bytes = r.bytes;
        located = located_front fronts linked r.bytes r.start (range_located r fronts found.1 apart);
        count = refl;
        value = one.1.1 ∙ ap (moved_number (length r.bytes) from to) same;
      });
  kept = λ a b none is. kept_outside fronts linked a (none_in a fronts none) ∙ is;
}

-- where code stores an address whole, there is a place among those of all codes
pub all_needed : (machine : MachineType) (codes : List LinkedCode) (c : LinkedCode) (r : Relocation) (width : ℕ) → Contains codes c → Contains c.code.relocations r → absolute_width machine r.kind ≡ Some width →
    Contains (flat_map (places_of_code machine) codes) (record { address = c.position + r.offset; width = width })
all_needed machine codes c r width held m is =
    grind (arith, contains_among c codes held, among_place machine c.position r width c.code.relocations is (contains_among r c.code.relocations m), contains_among r c.code.relocations m, among_contains, among_flat)

pub only_absolute : (a : ℕ) (tables places : List Place) → list_any (covers a) places ≡ true → list_any (covers a) (tables ++ places) ≡ true
only_absolute a tables places covered = grind (arith, list_any-append)

-- The programs that were linked by hand, by computing.

-- what the computing has to open
unfoldable pub opened : Unit {0}
unfolding digits u16_bytes u32_bytes export_object five_digits head_name head_object head_symbol hint_name iname_symbol numbered_name relocations_of_stub relocations_of_thunk mangled_name stub tail_name tail_object thunk next_multiple with_address export_spec head_spec tail_spec before_nul bytes_at data_at each_at entries_at name_of object_in object_of_header relocation_at relocation_of section_at section_of strings_at symbol_of u16_at u32_at up_to_nul auxiliary_bytes auxiliary_count contents contents_offset contents_size header_bytes encoded name_field offsets_from pointer_or_zero record_count records relocation_bytes section_header section_headers string_bytes_of string_offsets string_size string_table strings_size symbol_bytes symbol_table_offset long_names name_location layout_of symbol_written with_long_name with_name
opened = tt

-- whether texts are distinct
abbrev pub all_differ : List (List ℕ) → Bool
all_differ [] = true
all_differ (name ∷ names) = list_all (λ other. not (bytes_eq name other)) names && all_differ names

differ_from : (name : List ℕ) (names : List (List ℕ)) → list_all (λ other. not (bytes_eq name other)) names ≡ true → AllByRecursion (λ other. bytes_eq name other ≡ false) names
differ_from name [] all = tt
differ_from name (other ∷ names) all = grind (arith, differ_from name names)

pub distinct_by : (names : List (List ℕ)) → all_differ names ≡ true → IsDistinct bytes_eq names
unfolding IsDistinct
distinct_by [] all = tt
distinct_by (name ∷ names) all = grind (arith, distinct_by names, and_parts, differ_from)

pub claims_none_by : (names : List (List ℕ)) (o : Object) → list_all (λ name. not (list_any (bytes_eq name) (claimed_names o))) names ≡ true → ClaimsNone names o
claims_none_by [] o all = tt
claims_none_by (name ∷ names) o all =
    let parts = and_parts (not (list_any (bytes_eq name) (claimed_names o))) (list_all (λ name. not (list_any (bytes_eq name) (claimed_names o))) names) all in
    (not-true (list_any (bytes_eq name) (claimed_names o)) parts.0, claims_none_by names o parts.1)

-- whether bases are nonzero multiples of 4
abbrev is_base : ℕ → Bool
is_base n = nat_lt 0 n && (n % 4 == 0)

abbrev are_bases : Bases → Bool
are_bases b = is_base b.descriptors && (is_base b.directory_ends && (is_base b.lookups && (is_base b.addresses && (is_base b.hint_names && is_base b.dll_names))))

base_by : (n : ℕ) → is_base n ≡ true → IsBase n
base_by n is = let parts = and_parts (nat_lt 0 n) (n % 4 == 0) is in (ltb-true 0 n parts.0, eqb-true (n % 4) 0 parts.1)

-- A placement is admissible, by computing: such bases, and tables that rise below 2^31.
pub admissible_by : {machine : MachineType} {bases : Bases} {objects : List Object} → are_bases bases ≡ true → rise_below (2 ^ 31) (image_of machine bases (placed_from bases objects)) ≡ true → IsAdmissible machine bases objects
admissible_by {machine} {bases} {objects} are rise =
    let image : List Range = image_of machine bases (placed_from bases objects) in
    let from_ends = and_parts (is_base bases.descriptors) (is_base bases.directory_ends && (is_base bases.lookups && (is_base bases.addresses && (is_base bases.hint_names && is_base bases.dll_names)))) are in
    let from_lookups = and_parts (is_base bases.directory_ends) (is_base bases.lookups && (is_base bases.addresses && (is_base bases.hint_names && is_base bases.dll_names))) from_ends.1 in
    let from_addresses = and_parts (is_base bases.lookups) (is_base bases.addresses && (is_base bases.hint_names && is_base bases.dll_names)) from_lookups.1 in
    let from_hints = and_parts (is_base bases.addresses) (is_base bases.hint_names && is_base bases.dll_names) from_addresses.1 in
    let last = and_parts (is_base bases.hint_names) (is_base bases.dll_names) from_hints.1 in
    record {
      descriptors = base_by bases.descriptors from_ends.0;
      directory_ends = base_by bases.directory_ends from_lookups.0;
      lookups = base_by bases.lookups from_addresses.0;
      addresses = base_by bases.addresses from_hints.0;
      hint_names = base_by bases.hint_names last.0;
      dll_names = base_by bases.dll_names last.1;
      ends = ends_below (2 ^ 31) image rise;
      apart = apart_as_they_rise (2 ^ 31) image rise;
    }

-- whether objects claim none of some names
abbrev pub claim_none : List (List ℕ) → List Object → Bool
claim_none names objects = list_all (λ o. list_all (λ name. not (list_any (bytes_eq name) (claimed_names o))) names) objects

pub all_claim_none : (names : List (List ℕ)) (objects : List Object) → claim_none names objects ≡ true → AllByRecursion (ClaimsNone names) objects
all_claim_none names [] all = tt
all_claim_none names (o ∷ objects) all = grind (arith, all_claim_none names objects, and_parts, claims_none_by)

-- Objects are a program, by computing.
pub program_by : {machine : MachineType} {bases : Bases} {objects : List Object} (inputs : List LinkInput) → all_differ (linked_symbols machine inputs) ≡ true →
    filter has_tables objects ≡ objects_in (all_linked machine inputs) ++ null_descriptor ∷ [] → claim_none (linked_symbols machine inputs) (filter (λ o. not (has_tables o)) objects) ≡ true →
    IsAdmissible machine bases objects → IsProgram machine bases inputs objects
program_by {machine} {bases} {objects} inputs differ tables none admissible = record {
  held = gnu_objects machine inputs objects (distinct_by (linked_symbols machine inputs) differ) tables (all_claim_none (linked_symbols machine inputs) (filter (λ o. not (has_tables o)) objects) none);
  admissible = admissible;
  lookups = tt;
  addresses = tt;
  follows = tt;
}

-- Linked code has an instruction at an offset, by computing: its one relocation is in a field of four bytes.
pub instruction_by : {machine : MachineType} {c : LinkedCode} {offset : ℕ} {head tail name : List ℕ} (type symbol : ℕ) (field : List ℕ) → Names c.from symbol name → IsOperand machine type (length tail) (number_in field) →
    MeetsAlone machine c.code.relocations offset (length head + (4 + length tail)) (record { offset = offset + length head; symbol = symbol; kind = type }) → length field ≡ 4 →
    take (length head + (4 + length tail)) (drop offset c.code.bytes) ≡ head ++ (field ++ tail) → HasInstruction machine c offset head tail name
instruction_by type symbol field names counts alone four code = record { type = type; symbol = symbol; alone = alone; names = names; field = field; four = four; code = code; counts = counts }

pub worked_program : (machine : MachineType) → (machine ≡ ARM64 → ⊥) → WorkedProgram machine (touching machine) (if is_32bit machine then expected_4 else expected_8)
unfolding opened refusal renamed_refusal alias_specs encoded_size weak_object has_tables
worked_program ARM64 other = absurd (other refl)
worked_program machine _ = record {
  made = (record { accepted = refl; made = refl; ordinals = refl }, (record { accepted = refl; made = refl; ordinals = refl }, tt));
  program = program_by (both_inputs machine) refl refl refl (admissible_by refl refl);
  descriptors = refl;
  lookups = refl;
  addresses = refl;
  hints = refl;
  foo = refl;
  zed = refl;
  entries = refl;
  named = refl;
}

pub worked_programs : WorkedPrograms
worked_programs = record {
  amd64 = worked_program AMD64 (λ is. cc);
  i386 = worked_program I386 (λ is. cc);
}

relocations_within : (size : ℕ) (relocations : List Relocation) → list_all (λ r. nat_le (r.offset + 4) size) relocations ≡ true → AllByRecursion (λ r. r.offset + 4 ≤ size) relocations
relocations_within size [] all = tt
relocations_within size (r ∷ relocations) all = grind (arith, relocations_within size relocations)

sections_within : (sections : List ObjectSection) → list_all (λ s. list_all (λ r. nat_le (r.offset + 4) (length s.bytes)) s.relocations) sections ≡ true →
    AllByRecursion (λ s. AllByRecursion (λ r. r.offset + 4 ≤ length s.bytes) s.relocations) sections
sections_within [] all = tt
sections_within (s ∷ sections) all = grind (arith, sections_within sections, and_parts, relocations_within)

pub all_hold_fields : (objects : List Object) → list_all (λ o. list_all (λ s. list_all (λ r. nat_le (r.offset + 4) (length s.bytes)) s.relocations) o.sections) objects ≡ true →
    AllByRecursion HoldsFields objects
all_hold_fields [] all = tt
all_hold_fields (o ∷ objects) all = grind (arith, all_hold_fields objects, and_parts, sections_within)

-- The tables that lld wrote, by computing.

-- what the computing has to open
unfoldable pub lld_opened : Unit {0}
unfolding short_import_in comes_first entries_of_groups group_entries grouped put_in put_into short_for all_hints all_names built_bytes descriptor_built directory_built hint_built hints_built tables_built thunk_built thunks_built next_multiple u16_bytes u32_bytes u16_at u32_at
lld_opened = tt

-- two that are called alike in small letters are called alike
pub alike : (ks : List ShortImport) → AllByRecursion (λ r. AllByRecursion (λ s. (in_small r.dll ≡ in_small s.dll) → r.dll ≡ s.dll) ks) ks →
    (r s : ShortImport) → Contains ks r → Contains ks s → in_small r.dll ≡ in_small s.dll → r.dll ≡ s.dll
alike ks all r s first second same =
    all_among (λ s. (in_small r.dll ≡ in_small s.dll) → r.dll ≡ s.dll) s ks (contains_among s ks second)
    (all_among (λ r. AllByRecursion (λ s. (in_small r.dll ≡ in_small s.dll) → r.dll ≡ s.dll) ks) r ks (contains_among r ks first) all) same

-- Ranges of which none meets another, in any order.

pub disjoint : (r s : Range) → (range_end r ≤ s.start) ⊎ (range_end s ≤ r.start) → AreApart r s
disjoint r s (inl before) a first second = grind arith
disjoint r s (inr behind) a first second = grind arith

-- Symbols: those that the tables define are there, others are outside of them.

unfoldable pub meets_up : (List ℕ → ℕ) → List Placed → LinkedCode → Entry → Placed → Entry → Bool
meets_up outside linked d (Auxiliary bytes) p x = true
meets_up outside linked d (ASymbol t) p (Auxiliary bytes) = true
meets_up outside linked d (ASymbol t) p (ASymbol s) =
    if is_undefined_external s && (is_defined_external t && ((t.section == d.number) && bytes_eq t.name s.name))
    then or_thunk (outside s.name) (symbol_address linked p (ASymbol s)) == d.position + t.value else true

passes : (b x : Bool) → b ≡ true → (if b then x else true) ≡ true → x ≡ true
passes b x is test = rw is at test

unfoldable pub meet_test : (List ℕ → ℕ) → List Placed → List LinkedCode → Bool
unfolding meets_up
meet_test outside linked codes =
    list_all (λ (c : LinkedCode). list_all (λ (d : LinkedCode). list_all (λ t. list_all (meets_up outside linked d t c.from) c.from.object.entries) d.from.object.entries) codes) codes

pub takes_outside : (outside : List ℕ → ℕ) (linked : List Placed) (codes : List LinkedCode) → meet_test outside linked codes ≡ true →
    TakesSymbols linked codes (λ c index. taken_address outside linked c.from (slice_get c.from.object.entries index))
unfolding meets_up meet_test
takes_outside outside linked codes test = record {
  tables = λ c index address entry held at is. rw at (in_tables c.from entry address is);
  code = λ c d index s t c_held d_held at undefined defines named.
      let one = each_of (λ (x : LinkedCode). list_all (λ (y : LinkedCode). list_all (λ u. list_all (meets_up outside linked y u x.from) x.from.object.entries) y.from.object.entries) codes) c codes test (contains_among c codes c_held) in
      let two = each_of (λ (y : LinkedCode). list_all (λ u. list_all (meets_up outside linked y u c.from) c.from.object.entries) y.from.object.entries) d codes one (contains_among d codes d_held) in
      let three = each_of (λ u. list_all (meets_up outside linked d u c.from) c.from.object.entries) (ASymbol t) d.from.object.entries two (contains_among (ASymbol t) d.from.object.entries defines.held) in
      let four : meets_up outside linked d (ASymbol t) c.from (ASymbol s) ≡ true = each_of (meets_up outside linked d (ASymbol t) c.from) (ASymbol s) c.from.object.entries three (among_at (ASymbol s) c.from.object.entries index at) in
      let external : is_defined_external t ≡ true = defines.external in
      let here : (t.section == d.number) ≡ true = eq-eqb t.section d.number defines.here in
      let same : bytes_eq t.name s.name ≡ true = subst (λ n. bytes_eq t.name n ≡ true) named (same_text t.name) in
      let met : (or_thunk (outside s.name) (symbol_address linked c.from (ASymbol s)) == d.position + t.value) ≡ true = grind (arith, passes, number, and_from) in
      rw at (eqb-true (or_thunk (outside s.name) (symbol_address linked c.from (ASymbol s))) (d.position + t.value) met);
}
  where
    in_tables : (p : Placed) (entry : Entry) (address : ℕ) → symbol_address linked p entry ≡ Some address → taken_address outside linked p (Some entry) ≡ address
    in_tables p (Auxiliary bytes) address is = cc
    in_tables p (ASymbol s) address is = rw is refl

-- The three programs.

pub lld_pieces : (machine : MachineType) → NotThumb machine → ArePiecesAt machine (lld_image_on machine) 0x2000 (if is_32bit machine then 0x203C else 0x2040) (addresses_on machine) (if is_32bit machine then 0x2064 else 0x2090) (if is_32bit machine then 0x2072 else 0x209E) (imports_of_lld (shorts_on machine))
unfolding lld_opened Among
lld_pieces ARMNT none = absurd none
lld_pieces machine _ = built_pieces machine 0x2000 (imports_of_lld (shorts_on machine)) (lld_image_on machine) (tt, tt)
    (among_contains (built machine 0x2000 (imports_of_lld (shorts_on machine))) (lld_image_on machine) (inl (ap (λ bytes. record { start = 0x2000; bytes = bytes }) refl)))

pub lld_program : (machine : MachineType) → NotThumb machine → IsLldProgram machine 0x2000 (addresses_on machine) (shorts_on machine) (lld_image_on machine) (lld_linked_on machine)
unfolding lld_opened IsAskable
lld_program ARMNT none = absurd none
lld_program machine is = record {
  writable = (record { name = refl; asks = (omega arith, tt) }, (record { name = refl; asks = ((omega arith, refl), tt) }, (record { name = refl; asks = ((omega arith, refl), tt) }, tt)));
  distinct = distinct_by (imp_symbols_of (shorts_on machine)) refl;
  agree = grind (arith, alike);
  before = placed_object machine ∷ [];
  behind = placed_thunk machine (mid_on machine) ∷ [];
  placed = refl;
  none_before = (refl, (refl, (refl, tt)));
  none_behind = (refl, (refl, (refl, tt)));
  lookups = if is_32bit machine then 0x203C else 0x2040;
  hints = if is_32bit machine then 0x2064 else 0x2090;
  names = if is_32bit machine then 0x2072 else 0x209E;
  pieces = lld_pieces machine is;
  starts = (omega arith, tt);
  ends = (omega arith, tt);
}

-- Code as compilers write it, by computing and by the laws.

passing_program : (machine : MachineType) → NotThumb machine → IsProgram machine (touching machine) (both_inputs machine) (passing_objects machine)
unfolding opened refusal renamed_refusal alias_specs encoded_size weak_object has_tables relocated_test
passing_program ARMNT none = absurd none
passing_program machine _ = program_by (both_inputs machine) refl refl refl (admissible_by refl refl)

passing_beside : (machine : MachineType) → NotThumb machine → AreLinkedBeside machine (image_base machine) (passing_image machine (touching machine)) (passing_placed machine (touching machine)) (passing_codes machine (touching machine)) (passing_targets machine (touching machine))
unfolding opened refusal renamed_refusal alias_specs encoded_size weak_object has_tables relocated_test
passing_beside ARMNT none = absurd none
passing_beside machine _ = record {
  held = ((0, omega arith, refl), ((3, omega arith, refl), tt));
  sections = (refl, (refl, tt));
  ends = (omega arith, (omega arith, tt));
  apart = apart_as_they_rise (2 ^ 31) (passing_memory machine (touching machine)) refl;
  relocated = (
    relocated_by machine (image_base machine) (passing_targets machine (touching machine) (passing_at machine)) 0x1000 (passing_at machine).code (passing_at machine).bytes refl,
    (relocated_by machine (image_base machine) (passing_targets machine (touching machine) (stub_of_open machine (touching machine))) 0x1040 (stub_of_open machine (touching machine)).code (stub_of_open machine (touching machine)).bytes refl, tt),
  );
  resolved = takes_by machine (passing_placed machine (touching machine)) (passing_codes machine (touching machine)) refl refl;
}

-- Moved: base relocations where the code stores addresses whole.

i386_fronts : List Range
i386_fronts = record { start = 0x1005; bytes = 0x10 ∷ 0x20 ∷ 0 ∷ 0x10 ∷ [] } ∷ record { start = 0x100B; bytes = 0x60 ∷ 0 ∷ 0 ∷ 0x10 ∷ [] } ∷ record { start = 0x1011; bytes = 0x60 ∷ 0 ∷ 0 ∷ 0x10 ∷ [] } ∷ record { start = 0x1018; bytes = 0x60 ∷ 0 ∷ 0 ∷ 0x10 ∷ [] } ∷ record { start = 0x101C; bytes = 0x60 ∷ 0 ∷ 0 ∷ 0x10 ∷ [] } ∷ record { start = 0x1042; bytes = 0x60 ∷ 0 ∷ 0 ∷ 0x10 ∷ [] } ∷ []

i386_rebased : IsRebased 0x40_0000 0x1000_0000 (passing_places I386) (passing_memory I386 touching_4) (moved_memory I386 touching_4)
unfolding opened refusal renamed_refusal alias_specs encoded_size weak_object has_tables relocated_test i386_fronts
i386_rebased =
    rebased_by 0x40_0000 0x1000_0000 i386_fronts (passing_memory I386 touching_4) (apart_as_they_rise (2 ^ 31) i386_fronts refl)
    ((0x40_2010, (number (passing_memory I386 touching_4) 4 0x1005 0x40_2010 (0x10 ∷ 0x20 ∷ 0x40 ∷ 0 ∷ []) refl refl refl, refl)), ((0x40_0060, (number (passing_memory I386 touching_4) 4 0x100B 0x40_0060 (0x60 ∷ 0 ∷ 0x40 ∷ 0 ∷ []) refl refl refl, refl)), ((0x40_0060, (number (passing_memory I386 touching_4) 4 0x1011 0x40_0060 (0x60 ∷ 0 ∷ 0x40 ∷ 0 ∷ []) refl refl refl, refl)), ((0x40_0060, (number (passing_memory I386 touching_4) 4 0x1018 0x40_0060 (0x60 ∷ 0 ∷ 0x40 ∷ 0 ∷ []) refl refl refl, refl)), ((0x40_0060, (number (passing_memory I386 touching_4) 4 0x101C 0x40_0060 (0x60 ∷ 0 ∷ 0x40 ∷ 0 ∷ []) refl refl refl, refl)), ((0x40_0060, (number (passing_memory I386 touching_4) 4 0x1042 0x40_0060 (0x60 ∷ 0 ∷ 0x40 ∷ 0 ∷ []) refl refl refl, refl)), tt))))))

i386_moved : AreMoved I386 0x40_0000 0x1000_0000 (passing_image I386 touching_4) (passing_placed I386 touching_4) (passing_codes I386 touching_4) (passing_targets I386 touching_4) (passing_places I386) (moved_memory I386 touching_4)
unfolding opened refusal renamed_refusal alias_specs encoded_size weak_object has_tables relocated_test
i386_moved = record {
  beside = passing_beside I386 tt;
  within = ((omega arith, (omega arith, (omega arith, (omega arith, (omega arith, tt))))), ((omega arith, tt), tt));
  needed = λ c r width address entry held m is symbol placed. all_needed I386 (passing_codes I386 touching_4) c r width held m is;
  only = λ a byte is covered. only_absolute a (table_places I386 (passing_placed I386 touching_4)) (passing_places I386) covered;
  rebased = i386_rebased;
}

arm64_fronts : List Range
arm64_fronts = record { start = 0x1020; bytes = 0x80 ∷ 0 ∷ 0 ∷ 0x40 ∷ 0 ∷ 0 ∷ 0 ∷ 0 ∷ [] } ∷ []

arm64_rebased : IsRebased 0x1_4000_0000 0x4000_0000 (passing_places ARM64) (passing_memory ARM64 touching_8) (moved_memory ARM64 touching_8)
unfolding opened refusal renamed_refusal alias_specs encoded_size weak_object has_tables relocated_test arm64_fronts
arm64_rebased =
    rebased_by 0x1_4000_0000 0x4000_0000 arm64_fronts (passing_memory ARM64 touching_8) (apart_as_they_rise (2 ^ 31) arm64_fronts refl)
    ((0x1_4000_0080, (number (passing_memory ARM64 touching_8) 8 0x1020 0x1_4000_0080 (0x80 ∷ 0 ∷ 0 ∷ 0x40 ∷ 1 ∷ 0 ∷ 0 ∷ 0 ∷ []) refl refl refl, refl)), tt)

arm64_moved : AreMoved ARM64 0x1_4000_0000 0x4000_0000 (passing_image ARM64 touching_8) (passing_placed ARM64 touching_8) (passing_codes ARM64 touching_8) (passing_targets ARM64 touching_8) (passing_places ARM64) (moved_memory ARM64 touching_8)
unfolding opened refusal renamed_refusal alias_specs encoded_size weak_object has_tables relocated_test
arm64_moved = record {
  beside = passing_beside ARM64 tt;
  within = ((omega arith, tt), (tt, tt));
  needed = λ c r width address entry held m is symbol placed. all_needed ARM64 (passing_codes ARM64 touching_8) c r width held m is;
  only = λ a byte is covered. only_absolute a (table_places ARM64 (passing_placed ARM64 touching_8)) (passing_places ARM64) covered;
  rebased = arm64_rebased;
}

-- The fields of the code.

imp_named : (machine : MachineType) → Names (passing_at machine).from 1 (imp_open machine)
imp_named machine = record { symbol = symbol_of_class (imp_open machine) 0 class_external; target = refl; undefined = refl; named = refl }

bare_named : (machine : MachineType) → Names (passing_at machine).from 3 (open_on machine)
bare_named machine = record { symbol = symbol_of_class (open_on machine) 0 class_external; target = refl; undefined = refl; named = refl }

pub passing_fields : PassingFields
passing_fields = record {
  amd64_call = instruction_by amd64_rel32 1 (0 ∷ 0 ∷ 0 ∷ 0 ∷ []) (imp_named AMD64) (0, (omega arith, (refl, refl))) refl refl refl;
  amd64_operand = record { type = amd64_rel32_1; field = record { symbol = 1; alone = refl; inside = omega arith; names = imp_named AMD64 }; counts = (1, (omega arith, (refl, refl))); within = omega arith };
  amd64_branch = record { type = amd64_rel32; field = record { symbol = 3; alone = refl; inside = omega arith; names = bare_named AMD64 }; counts = (0, (omega arith, (refl, refl))); within = omega arith };
  amd64_pointer = record { type = amd64_addr64; field = record { symbol = 1; alone = refl; inside = omega arith; names = imp_named AMD64 }; stores = refl; empty = refl };
  i386_call = instruction_by i386_dir32 1 (0 ∷ 0 ∷ 0 ∷ 0 ∷ []) (imp_named I386) (refl, refl) refl refl refl;
  i386_operand = record { type = i386_dir32; field = record { symbol = 1; alone = refl; inside = omega arith; names = imp_named I386 }; counts = (refl, refl); within = omega arith };
  i386_pointer = record { type = i386_dir32; field = record { symbol = 1; alone = refl; inside = omega arith; names = imp_named I386 }; stores = refl; empty = refl };
  i386_branch = record { type = i386_rel32; field = record { symbol = 3; alone = refl; inside = omega arith; names = bare_named I386 }; counts = (refl, refl); within = omega arith };
  arm64_page = record { field = record { symbol = 1; alone = refl; inside = omega arith; names = imp_named ARM64 }; empty = refl };
  arm64_offset = record { field = record { symbol = 1; alone = refl; inside = omega arith; names = imp_named ARM64 }; eight = refl; empty = refl };
  arm64_branch = record { type = arm64_branch26; field = record { symbol = 3; alone = refl; inside = omega arith; names = bare_named ARM64 }; counts = (refl, refl); within = omega arith };
  arm64_pointer = record { type = arm64_addr64; field = record { symbol = 1; alone = refl; inside = omega arith; names = imp_named ARM64 }; stores = refl; empty = refl };
}

-- The programs, by the laws: in memory at the base that they were linked for, or at another.

fields_at : (machine : MachineType) → NotThumb machine → (base : ℕ) (memory : List Range) → AreInMemory machine base (passing_image machine (touching machine)) (passing_placed machine (touching machine)) (passing_codes machine (touching machine)) (passing_targets machine (touching machine)) memory → WorkedFields machine base (touching machine) memory (if is_32bit machine then 0x60 else 0x80)
unfolding opened refusal renamed_refusal alias_specs encoded_size weak_object has_tables
fields_at ARMNT none base memory at = absurd none
fields_at machine is base memory at = record {
  program = passing_program machine is;
  at = at;
  stub = record { bytes = refl; relocations = refl; begins = refl; symbol = _; held = refl; placed = refl };
}

fields : (machine : MachineType) → NotThumb machine → WorkedFields machine (image_base machine) (touching machine) (passing_memory machine (touching machine)) (if is_32bit machine then 0x60 else 0x80)
fields machine is = fields_at machine is (image_base machine) (passing_memory machine (touching machine)) (inl (passing_beside machine is, refl))

pub worked_operands : WorkedOperands
worked_operands = record {
  amd64 = fields AMD64 tt;
  i386 = fields I386 tt;
  i386_moved = fields_at I386 tt 0x1000_0000 (moved_memory I386 touching_4) (inr (0x40_0000, (passing_places I386, (tt, i386_moved))));
  arm64 = fields ARM64 tt;
  arm64_moved = fields_at ARM64 tt 0x4000_0000 (moved_memory ARM64 touching_8) (inr (0x1_4000_0000, (passing_places ARM64, (refl, arm64_moved))));
  amd64_call = refl;
  i386_call = refl;
  amd64_branch = refl;
  i386_branch = refl;
  arm64_branch = refl;
}
