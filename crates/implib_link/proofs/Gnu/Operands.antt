-- Fields against a name lead to its entry, whatever instruction holds them.
use Rattle.std.proofs.Common.{rules, ◌≡◌, ℕ, ◌+◌, ◌-◌, ◌*◌, ◌/◌, ◌%◌, ◌^◌, ◌<◌, ◌≤◌, ◌⊎◌, false, List, [], ◌∷◌, ◌++◌, length, take, drop, None, Some, refl, ap, sym, ◌∙◌, subst, inl, inr, arith}
use Rattle.std.specs.Prelude.{slice_get}
use Rattle.std.specs.List.{AllByRecursion, Contains, list_any}
use Rattle.std.proofs.lemmas.Bool.{false_from_ne_true}
use Rattle.std.proofs.lemmas.List.{append_assoc, drop-drop, drop_at, length-append, length-drop, take-append-drop, take_at}
use Rattle.std.proofs.lemmas.Option.{slice_get_within}
use Rattle.implib.specs.declared.coff.object.Relocation.{Relocation}
use Rattle.implib.specs.declared.machine.MachineType.{MachineType}
use Rattle.implib.specs.declared.machine.MachineType.TheVariants.{I386, ARMNT, AMD64, ARM64}
use Rattle.implib.specs.Formats.Constants.{amd64_rel32, arm64_pagebase_rel21, arm64_pageoffset_12l, i386_dir32}
use Rattle.implib.specs.Formats.Object.{ASymbol, ObjectSymbol}
use Rattle.implib.specs.Link.Image.{Range}
use Rattle.implib.specs.Link.Load.{BytesAt, NumberAt, number_in}
use Rattle.implib.specs.Link.Placement.{Placed}
use Rattle.implib.specs.Link.Resolution.{definitions_of}
use Rattle.implib.specs.Members.ImportTables.{thunk_width}
use Rattle.implib.proofs.Link.LinkedMembers.{among_contains}
use Rattle.implib.proofs.Link.Ranges.{Among, all_among}
use Rattle.implib_link.specs.Gnu.Fields.{CanBranch, field_width, DefinesIn, FieldHolds, LinkedCode, MeetsAlone, field_at, meets, AllLead, AllLeadTo, BranchArrives, HasBranch, HasInstruction, HasOffsetField, HasOperand, HasPageField, HasPointer, InstructionArrives, IsBranch, IsOperand, IsPointer, Names, OperandArrives, PairArrives, PointerArrives, operand_leads, BranchStays, StubAt, placed_code, DirectCallArrives, HasDirectCall, HasInstructions, arm64_branch26, direct_bytes, direct_leads, direct_relocations, i386_rel32, absolute_width, StubArrives}
use Rattle.implib_link.specs.Stub.{adrp_immediate, bits_of, ldr_immediate, page, plus_signed, with_bits, jump_reads, with_adrp}
use Rattle.implib_link.proofs.Gnu.CallReads.{CanReach}
use Rattle.implib_link.proofs.Gnu.Fields.{alone_same, alone_within, get_drop, get_front, meeting, meets_bounds, meets_from, page_and_offset, sum_of_eights, ReadsPair, pair_read, one_met, own_any, own_code, own_met, own_names, read_word, joined, four_of, jump_field, own_inside}
use Rattle.implib_link.proofs.Gnu.FieldsInMemory.{Rests, Settles, bytes_there, field_there, own_end, settled_in_tables, steady_there, part_there}
use Rattle.implib_link.proofs.Gnu.Loaded.{Covers}
use Rattle.implib_link.proofs.Flavors.Block.{gets_address}
use Rattle.implib_link.proofs.Search.Lists.{among_at, contains_among}
use Rattle.implib.specs.Members.Gnu.{stub_bytes, stub_relocations}

-- Numbers relative to the end of an instruction.

pub dir32_is : (n old base target : ℕ) → n ≡ (old + (base + target)) % 2 ^ 32 → old ≡ 0 → base + 2 ^ 31 ≤ 2 ^ 32 → target < 2 ^ 31 → n ≡ base + target
dir32_is n old base target is empty fits small = omega arith

pub addr64_is : (n old base target : ℕ) → n ≡ (old + (base + target)) % 2 ^ 64 → old ≡ 0 → base + 2 ^ 31 ≤ 2 ^ 64 → target < 2 ^ 31 → n ≡ base + target
addr64_is n old base target is empty fits small = omega arith

-- Types of relative fields.

pub operand_width : (machine : MachineType) (type after number : ℕ) → IsOperand machine type after number → field_width machine type ≡ 4
operand_width machine type after number counts = grind arith

branch_width : (machine : MachineType) (type after number : ℕ) → IsBranch machine type after number → field_width machine type ≡ 4
branch_width machine type after number counts = grind (arith, operand_width)

branch_steady : (machine : MachineType) (type after number : ℕ) → IsBranch machine type after number → absolute_width machine type ≡ None
branch_steady machine type after number counts = grind arith

pub pointer_width : (machine : MachineType) (type : ℕ) → IsPointer machine type → field_width machine type ≡ thunk_width machine
pointer_width machine type stores = grind arith

-- Where they lead, by the machines.

operand_by : (machine : MachineType) (type base position target after : ℕ) (old new : ℕ → ℕ) → IsOperand machine type after (old 4) → FieldHolds machine type base position target old new →
    CanReach machine base target → position + (4 + after) ≤ 2 ^ 31 → target < 2 ^ 31 → operand_leads machine (base + position) after (new 4) ≡ Some (base + target)
operand_by machine type base position target after old new counts holds can near small = grind (arith, dir32_is)

-- ARM64's page and offset.

pub page_leads : (new old base first target : ℕ) → adrp_immediate new ≡ (page (base + target + adrp_immediate old) + (2 ^ 21 - page (base + first) % 2 ^ 21)) % 2 ^ 21 → adrp_immediate old ≡ 0 →
    first + 16 ≤ 2 ^ 31 → target < 2 ^ 31 → plus_signed 21 4096 (adrp_immediate new) (page (base + first) * 4096) ≡ page (base + target) * 4096
page_leads new old base first target is empty near small = grind arith

offset_leads : (new old base target : ℕ) → with_bits 10 12 0 new ≡ with_bits 10 12 0 old → bits_of 30 2 old ≡ 3 → bits_of 10 12 new ≡ (base + target + ldr_immediate old) % 4096 / 8 → ldr_immediate old ≡ 0 →
    (base + target) % 8 ≡ 0 → ldr_immediate new ≡ (base + target) % 4096
offset_leads new old base target same eight is empty even = grind arith

pub pair_leads : (adrp load paged offset target : ℕ) → paged ≡ page target * 4096 → offset ≡ target % 4096 → paged + offset ≡ target
pair_leads adrp load paged offset target first second = rw (first, second) (page_and_offset target)

-- An instruction in code.

record Parts (c : LinkedCode) (offset : ℕ) (head field tail : List ℕ) : Type 0 where
  back : List ℕ
  whole : drop offset c.code.bytes ≡ head ++ (field ++ (tail ++ back))

parts_of : (c : LinkedCode) (offset count : ℕ) (head field tail : List ℕ) → take count (drop offset c.code.bytes) ≡ head ++ (field ++ tail) → Parts c offset head field tail
parts_of c offset count head field tail is =
    let back : List ℕ = drop count (drop offset c.code.bytes) in
    record {
      back = back;
      whole = sym (take-append-drop count (drop offset c.code.bytes)) ∙ ap (λ xs. xs ++ back) is ∙ append_assoc head (field ++ tail) back ∙ ap (λ xs. head ++ xs) (append_assoc field tail back);
    }

module _ (machine : MachineType) (image_base : ℕ) (image : List Range) (linked : List Placed) (codes : List LinkedCode) (targets : LinkedCode → ℕ → ℕ) (memory : List Range)
    (at : Rests machine image_base image linked codes targets memory) (written : List Range) (covers_it : AllByRecursion (Covers image) written) where
  -- where linked code defines a name, symbols of it are
  pub where_defined : (c d : LinkedCode) (name : List ℕ) (t : ObjectSymbol) → Contains codes c → Contains codes d → DefinesIn d t → t.name ≡ name → (index : ℕ) → Names c.from index name → targets c index ≡ d.position + t.value
  where_defined c d name t held d_held defines named index names = at.beside.resolved.code c d index names.symbol t held d_held names.target names.undefined defines (named ∙ sym names.named)

  -- a branch leads to where symbols of its name are
  pub branch_reaches : (c : LinkedCode) (offset after address : ℕ) (name : List ℕ) → Contains codes c → HasBranch machine c offset after name → ((index : ℕ) → Names c.from index name → targets c index ≡ address) →
      address < 2 ^ 31 → CanBranch machine (c.position + offset) address → BranchArrives machine image_base (written ++ memory) (c.position + offset) after address
  branch_reaches c offset after address name held has taken small can =
      let m : Among c codes = contains_among c codes held in
      let found = steady_there machine image_base image linked codes targets memory at written covers_it c m offset has.type has.field.symbol has.field.alone has.field.inside
      (branch_steady machine has.type after (field_at c.code.bytes offset 4) has.counts) in
      record {
        number = found.0 4;
        there = subst (λ w. NumberAt (written ++ memory) w (c.position + offset) (found.0 w)) (branch_width machine has.type after (field_at c.code.bytes offset 4) has.counts) found.1.0;
        leads = grind (arith, own_end machine image_base image linked codes targets memory at written covers_it c m);
      }

  -- and is, but for its distance, as it was
  pub branch_stays : (c d : LinkedCode) (offset after : ℕ) (name : List ℕ) (t : ObjectSymbol) → Contains codes c → HasBranch machine c offset after name → Contains codes d → DefinesIn d t → t.name ≡ name →
      CanBranch machine (c.position + offset) (d.position + t.value) → BranchStays machine (written ++ memory) (c.position + offset) (field_at c.code.bytes offset 4)
  branch_stays c d offset after name t held has d_held defines named can = grind (
    arith,
    contains_among c codes held,
    steady_there machine image_base image linked codes targets memory,
    branch_steady machine has.type after (field_at c.code.bytes offset 4) has.counts,
    branch_width machine has.type after (field_at c.code.bytes offset 4) has.counts,
    where_defined c d name t held d_held defines named has.field.symbol has.field.names,
  )

  -- what leads to the only definition of a name, where these bytes are
  module _ (name bytes : List ℕ) (entry : ℕ) (once : definitions_of name linked ≡ record { name = name; address = Some entry } ∷ []) (small : entry < 2 ^ 31) (can : CanReach machine image_base entry)
      (located : BytesAt (written ++ memory) entry bytes) where
    abbrev Found : LinkedCode → ℕ → ℕ → Type 0
    Found c offset type =
        (new : ℕ → ℕ) × (NumberAt (written ++ memory) (field_width machine type) (c.position + offset) (new (field_width machine type))
        × FieldHolds machine type image_base (c.position + offset) entry (field_at c.code.bytes offset) new)

    abbrev pub Settled : LinkedCode → ℕ → Type 0
    Settled c symbol = Settles machine image_base image linked codes targets memory at c symbol entry

    found_at : (c : LinkedCode) (offset type symbol : ℕ) → Contains codes c → MeetsAlone machine c.code.relocations offset (field_width machine type) (record { offset = offset; symbol = symbol; kind = type }) →
        offset + field_width machine type ≤ length c.code.bytes → Settled c symbol → Found c offset type
    found_at c offset type symbol held alone inside settles =
        field_there machine image_base image linked codes targets memory at written covers_it c (contains_among c codes held) offset type symbol alone inside entry settles

    -- symbols of the name have the address
    settled_by : (c : LinkedCode) (symbol : ℕ) → Contains codes c → Names c.from symbol name → Settled c symbol
    settled_by c symbol held names =
        settled_in_tables machine image_base image linked codes targets memory at c symbol entry (ASymbol names.symbol) held names.target
        (gets_address linked name entry once c.from names.symbol (all_among (λ (x : LinkedCode). Contains linked x.from) c codes (contains_among c codes held) at.beside.held)
        (among_contains (ASymbol names.symbol) c.from.object.entries (among_at (ASymbol names.symbol) c.from.object.entries symbol names.target)) names.undefined names.named)

    end_of : (c : LinkedCode) → Contains codes c → c.position + length c.code.bytes + 16 ≤ 2 ^ 31
    end_of c held = own_end machine image_base image linked codes targets memory at written covers_it c (contains_among c codes held)

    -- an instruction with an operand against a symbol that has the entry's address
    pub instruction_at : (c : LinkedCode) (offset : ℕ) (head field tail : List ℕ) (type symbol : ℕ) → Contains codes c →
        MeetsAlone machine c.code.relocations offset (length head + (4 + length tail)) (record { offset = offset + length head; symbol = symbol; kind = type }) → length field ≡ 4 →
        take (length head + (4 + length tail)) (drop offset c.code.bytes) ≡ head ++ (field ++ tail) → IsOperand machine type (length tail) (number_in field) →
        Settled c symbol → InstructionArrives machine image_base linked (written ++ memory) (c.position + offset) head tail name bytes
    instruction_at c offset head field tail type symbol held alone_in four code counts settles =
        let m : Among c codes = contains_among c codes held in
        let inner : ℕ = offset + length head in
        let last : ℕ = inner + 4 in
        let count : ℕ = length head + (4 + length tail) in
        let r : Relocation = record { offset = inner; symbol = symbol; kind = type } in
        let wide : field_width machine type ≡ 4 = operand_width machine type (length tail) (number_in field) counts in
        let parts : Parts c offset head field tail = parts_of c offset count head field tail code in
        let size : length c.code.bytes - offset ≡ length head + (length field + (length tail + length parts.back)) = cc (length-drop offset c.code.bytes, length-append head (field ++ (tail ++ parts.back)), length-append field (tail ++ parts.back), length-append tail parts.back) in
        let alone : MeetsAlone machine c.code.relocations inner (field_width machine type) r =
        alone_within machine c.code.relocations offset count inner (field_width machine type) r alone_in (omega arith) (omega arith) (meets_from machine inner (field_width machine type) r (omega arith) (omega arith)) in
        let found : Found c inner type = found_at c inner type symbol held alone (omega arith) settles in
        let at_field : drop inner c.code.bytes ≡ field ++ (tail ++ parts.back) = cc (drop-drop (length head) offset c.code.bytes, drop_at head (field ++ (tail ++ parts.back)) (length head) refl) in
        let at_tail : drop last c.code.bytes ≡ tail ++ parts.back = sym (drop-drop 4 inner c.code.bytes) ∙ ap (drop 4) at_field ∙ drop_at field (tail ++ parts.back) 4 four in
        let old : field_at c.code.bytes inner 4 ≡ number_in field = ap (λ xs. number_in (take 4 xs)) at_field ∙ ap number_in (take_at field (tail ++ parts.back) 4 four) in
        let clear : (k : ℕ) → offset ≤ k → k < offset + count → (k < inner) ⊎ (last ≤ k) → list_any (meets machine k 1) c.code.relocations ≡ false = λ k low high beside.
        false_from_ne_true (list_any (meets machine k 1) c.code.relocations) (λ met.
        let s = meeting machine k c.code.relocations met in
        let bounds = meets_bounds machine k 1 s.0 s.1.1 in
        let same : s.0 ≡ r = alone_same machine c.code.relocations offset count r alone_in s.0 s.1.0 (meets_from machine offset count s.0 (omega arith) (omega arith)) in
        let kind : field_width machine s.0.kind ≡ 4 = ap (λ (x : Relocation). field_width machine x.kind) same ∙ wide in
        elim beside [ inl before ↦ omega (arith, bounds.0, bounds.1, ap (λ (x : Relocation). x.offset) same) | inr after ↦ omega (arith, bounds.0, bounds.1, ap (λ (x : Relocation). x.offset) same) ]) in
        let number : NumberAt (written ++ memory) 4 (c.position + inner) (found.0 4) = subst (λ w. NumberAt (written ++ memory) w (c.position + inner) (found.0 w)) wide found.1.0 in
        let head_there : BytesAt (written ++ memory) (c.position + offset) head =
        bytes_there machine image_base image linked codes targets memory at written covers_it c m offset head (λ i b is.
        let below : i < length head = slice_get_within head i b is in (
          sym (get_drop offset c.code.bytes i) ∙ ap (λ xs. slice_get xs i) parts.whole ∙ get_front head (field ++ (tail ++ parts.back)) i b is,
          clear (offset + i) (omega arith) (omega arith) (inl (omega arith)),
        )) in
        let tail_there : BytesAt (written ++ memory) (c.position + last) tail =
        bytes_there machine image_base image linked codes targets memory at written covers_it c m last tail (λ i b is.
        let below : i < length tail = slice_get_within tail i b is in (
          sym (get_drop last c.code.bytes i) ∙ ap (λ xs. slice_get xs i) at_tail ∙ get_front tail parts.back i b is,
          clear (last + i) (omega arith) (omega arith) (inr (omega arith)),
        )) in
        let field_place : c.position + inner ≡ c.position + offset + length head = omega arith in
        record {
          field = number.bytes;
          four = number.count;
          there = joined (written ++ memory) head (number.bytes ++ tail) (c.position + offset) head_there
              (subst (λ n. BytesAt (written ++ memory) n (number.bytes ++ tail)) field_place
              (joined (written ++ memory) number.bytes tail (c.position + inner) number.located (subst (λ n. BytesAt (written ++ memory) n tail) (omega (arith, end_of c held)) tail_there)));
          entry = entry;
          own = once;
          leads = grind (arith, operand_by, end_of);
          located = located;
        }

    -- what leads there that is against a name whose symbols have the address
    module _ (called : List ℕ) (settled : (c : LinkedCode) (symbol : ℕ) → Contains codes c → Names c.from symbol called → Settles machine image_base image linked codes targets memory at c symbol entry) where
      operand_arrives : (c : LinkedCode) (offset after : ℕ) → Contains codes c → HasOperand machine c offset after called → OperandArrives machine image_base linked (written ++ memory) (c.position + offset) after name bytes
      operand_arrives c offset after held has =
          let found : Found c offset has.type = found_at c offset has.type has.field.symbol held has.field.alone has.field.inside (settled c has.field.symbol held has.field.names) in
          record {
            number = found.0 4;
            there = subst (λ w. NumberAt (written ++ memory) w (c.position + offset) (found.0 w)) (operand_width machine has.type after (field_at c.code.bytes offset 4) has.counts) found.1.0;
            entry = entry;
            own = once;
            leads = operand_by machine has.type image_base (c.position + offset) entry after (field_at c.code.bytes offset) found.0 has.counts found.1.1 can (omega (arith, end_of c held)) small;
            located = located;
          }

      pointer_arrives : (c : LinkedCode) (offset : ℕ) → image_base + 2 ^ 31 ≤ 2 ^ 64 → Contains codes c → HasPointer machine c offset called → PointerArrives machine image_base linked (written ++ memory) (c.position + offset) name bytes
      pointer_arrives c offset fits held has =
          grind (arith, found_at c offset has.type has.field.symbol held has.field.alone has.field.inside (settled c has.field.symbol held has.field.names), pointer_width)

      instruction_arrives : (c : LinkedCode) (offset : ℕ) (head tail : List ℕ) → Contains codes c → HasInstruction machine c offset head tail called →
          InstructionArrives machine image_base linked (written ++ memory) (c.position + offset) head tail name bytes
      instruction_arrives c offset head tail held has = search (rules, instruction_at)

-- ARM64's two instructions, of fields against symbols that have the entry's address.
pub pair_at : (image_base : ℕ) (image : List Range) (linked : List Placed) (codes : List LinkedCode) (targets : LinkedCode → ℕ → ℕ) (memory : List Range) (at : Rests ARM64 image_base image linked codes targets memory)
    (written : List Range) (covers_it : AllByRecursion (Covers image) written) (name bytes : List ℕ) (entry : ℕ) → definitions_of name linked ≡ record { name = name; address = Some entry } ∷ [] → entry < 2 ^ 31 →
    CanReach ARM64 image_base entry → BytesAt (written ++ memory) entry bytes → (c d : LinkedCode) (first second page_symbol offset_symbol : ℕ) → Contains codes c → Contains codes d →
    MeetsAlone ARM64 c.code.relocations first 4 (record { offset = first; symbol = page_symbol; kind = arm64_pagebase_rel21 }) → first + 4 ≤ length c.code.bytes →
    MeetsAlone ARM64 d.code.relocations second 4 (record { offset = second; symbol = offset_symbol; kind = arm64_pageoffset_12l }) → second + 4 ≤ length d.code.bytes →
    adrp_immediate (field_at c.code.bytes first 4) ≡ 0 → bits_of 30 2 (field_at d.code.bytes second 4) ≡ 3 → ldr_immediate (field_at d.code.bytes second 4) ≡ 0 →
    Settles ARM64 image_base image linked codes targets memory at c page_symbol entry → Settles ARM64 image_base image linked codes targets memory at d offset_symbol entry →
    PairArrives image_base linked (written ++ memory) (c.position + first) (d.position + second) (field_at c.code.bytes first 4) (field_at d.code.bytes second 4) name bytes
pair_at image_base image linked codes targets memory at written covers_it name bytes entry once small can located c d first second page_symbol offset_symbol c_held d_held page_alone page_inside offset_alone offset_inside
    page_empty eight offset_empty page_settles offset_settles =
    let paged = found_at ARM64 image_base image linked codes targets memory at written covers_it name bytes entry once small can located c first arm64_pagebase_rel21 page_symbol c_held page_alone page_inside page_settles in
    let placed = found_at ARM64 image_base image linked codes targets memory at written covers_it name bytes entry once small can located d second arm64_pageoffset_12l offset_symbol d_held offset_alone offset_inside offset_settles in
    let end : c.position + length c.code.bytes + 16 ≤ 2 ^ 31 = end_of ARM64 image_base image linked codes targets memory at written covers_it name bytes entry once small can located c c_held in
    let offset_holds = placed.1.1.offset_of refl eight in
    record {
      adrp = paged.0 4;
      adrp_there = paged.1.0;
      is_adrp = (paged.1.1.page_of refl).0;
      load = placed.0 4;
      load_there = placed.1.0;
      is_load = offset_holds.0;
      entry = entry;
      own = once;
      leads = grind (arith, offset_leads (placed.0 4) (field_at d.code.bytes second 4) image_base entry offset_holds.0 eight offset_holds.1 offset_empty (sum_of_eights image_base entry can.0 can.1));
      located = located;
    }

pairs_arrive : (machine : MachineType) (image_base : ℕ) (image : List Range) (linked : List Placed) (codes : List LinkedCode) (targets : LinkedCode → ℕ → ℕ) (memory : List Range) (at : Rests machine image_base image linked codes targets memory)
    (written : List Range) (covers_it : AllByRecursion (Covers image) written) (name bytes : List ℕ) (entry : ℕ) → definitions_of name linked ≡ record { name = name; address = Some entry } ∷ [] → entry < 2 ^ 31 →
    CanReach machine image_base entry → BytesAt (written ++ memory) entry bytes → (called : List ℕ) →
    ((c : LinkedCode) (symbol : ℕ) → Contains codes c → Names c.from symbol called → Settles machine image_base image linked codes targets memory at c symbol entry) → (c d : LinkedCode) (first second : ℕ) → machine ≡ ARM64 →
    Contains codes c → Contains codes d → HasPageField c first called → HasOffsetField d second called →
    PairArrives image_base linked (written ++ memory) (c.position + first) (d.position + second) (field_at c.code.bytes first 4) (field_at d.code.bytes second 4) name bytes
pairs_arrive ARM64 image_base image linked codes targets memory at written covers_it name bytes entry once small can located called settled c d first second is c_held d_held page_field offset_field =
    pair_at image_base image linked codes targets memory at written covers_it name bytes entry once small can located c d first second page_field.field.symbol offset_field.field.symbol c_held d_held
    page_field.field.alone page_field.field.inside offset_field.field.alone offset_field.field.inside page_field.empty offset_field.eight offset_field.empty
    (settled c page_field.field.symbol c_held page_field.field.names) (settled d offset_field.field.symbol d_held offset_field.field.names)
pairs_arrive machine image_base image linked codes targets memory at written covers_it name bytes entry once small can located called settled c d first second is c_held d_held page_field offset_field = cc

-- fields against a name whose symbols have the entry's address, be it the entry's own name or another
pub all_lead_to : (machine : MachineType) (image_base : ℕ) (image : List Range) (linked : List Placed) (codes : List LinkedCode) (targets : LinkedCode → ℕ → ℕ) (memory : List Range)
    (at : Rests machine image_base image linked codes targets memory) (written : List Range) → AllByRecursion (Covers image) written → (name bytes : List ℕ) (entry : ℕ) →
    definitions_of name linked ≡ record { name = name; address = Some entry } ∷ [] → entry < 2 ^ 31 → CanReach machine image_base entry → BytesAt (written ++ memory) entry bytes → (called : List ℕ) →
    ((c : LinkedCode) (symbol : ℕ) → Contains codes c → Names c.from symbol called → Settles machine image_base image linked codes targets memory at c symbol entry) →
    AllLeadTo machine image_base linked codes (written ++ memory) called name bytes
all_lead_to machine image_base image linked codes targets memory at written covers_it name bytes entry once small can located called settled = record {
  operands = operand_arrives machine image_base image linked codes targets memory at written covers_it name bytes entry once small can located called settled;
  instructions = instruction_arrives machine image_base image linked codes targets memory at written covers_it name bytes entry once small can located called settled;
  pairs = pairs_arrive machine image_base image linked codes targets memory at written covers_it name bytes entry once small can located called settled;
  pointers = pointer_arrives machine image_base image linked codes targets memory at written covers_it name bytes entry once small can located called settled;
}

pub all_lead : (machine : MachineType) (image_base : ℕ) (image : List Range) (linked : List Placed) (codes : List LinkedCode) (targets : LinkedCode → ℕ → ℕ) (memory : List Range) → Rests machine image_base image linked codes targets memory →
    (written : List Range) → AllByRecursion (Covers image) written → (name bytes : List ℕ) (entry : ℕ) → definitions_of name linked ≡ record { name = name; address = Some entry } ∷ [] → entry < 2 ^ 31 →
    CanReach machine image_base entry → BytesAt (written ++ memory) entry bytes → AllLead machine image_base linked codes (written ++ memory) name bytes
all_lead machine image_base image linked codes targets memory at written covers_it name bytes entry once small can located =
    all_lead_to machine image_base image linked codes targets memory at written covers_it name bytes entry once small can located name
    (settled_by machine image_base image linked codes targets memory at written covers_it name bytes entry once small can located)

-- The stub of an export in memory jumps through the entry.

amd64_jump : (address : ℕ) (field : List ℕ) → length field ≡ 4 → jump_reads AMD64 address (0xFF ∷ 0x25 ∷ (field ++ 0x90 ∷ 0x90 ∷ [])) ≡ Some (plus_signed 32 1 (number_in field) (address + 6))
amd64_jump address field four = grind (arith, four_of field four)

pub arm64_jump : ReadsPair (jump_reads ARM64) 0x9000_0010 0xF940_0210 (0 ∷ 2 ∷ 0x1F ∷ 0xD6 ∷ [])
arm64_jump address adrp load four also is_adrp is_load = grind (arith, four_of adrp four, four_of load also)

-- bytes of a stub that its relocations leave
stub_part : (machine : MachineType) (image_base : ℕ) (image : List Range) (linked : List Placed) (codes : List LinkedCode) (targets : LinkedCode → ℕ → ℕ) (memory : List Range)
    (at : Rests machine image_base image linked codes targets memory) (written : List Range) (covers_it : AllByRecursion (Covers image) written) (d : LinkedCode) (held : Contains codes d)
    (relocations : List Relocation) (offset count : ℕ) (bytes : List ℕ) → take count (drop offset d.code.bytes) ≡ bytes → d.code.relocations ≡ relocations →
    list_any (meets machine offset count) relocations ≡ false → BytesAt (written ++ memory) (d.position + offset) bytes
stub_part machine image_base image linked codes targets memory at written covers_it d held relocations offset count bytes is own none =
    grind (arith, part_there machine image_base image linked codes targets memory, contains_among d codes held)

x86_jumps : (memory : List Range) (position : ℕ) (name bytes : List ℕ) (machine : MachineType) (image_base : ℕ) (linked : List Placed) → length (stub_bytes machine) ≡ 8 →
    (x : InstructionArrives machine image_base linked memory (position + 0) (0xFF ∷ 0x25 ∷ []) [] name bytes) → BytesAt memory (position + 6) (0x90 ∷ 0x90 ∷ []) →
    jump_reads machine (image_base + position) (0xFF ∷ 0x25 ∷ (x.field ++ 0x90 ∷ 0x90 ∷ [])) ≡ Some (image_base + x.entry) → StubArrives machine image_base memory position bytes
x86_jumps memory position name bytes machine image_base linked size x tail reads =
    let long : length (0xFF ∷ 0x25 ∷ (x.field ++ [])) ≡ 6 = omega (arith, length-append x.field []) in
    grind (arith, length-append x.field (0x90 ∷ 0x90 ∷ []), four_of x.field x.four, joined)

pub stub_arrives : (machine : MachineType) (image_base : ℕ) (image : List Range) (linked : List Placed) (codes : List LinkedCode) (targets : LinkedCode → ℕ → ℕ) (memory : List Range)
    (at : Rests machine image_base image linked codes targets memory) (written : List Range) (covers_it : AllByRecursion (Covers image) written) (name bytes : List ℕ) (entry : ℕ) →
    definitions_of name linked ≡ record { name = name; address = Some entry } ∷ [] → entry < 2 ^ 31 → CanReach machine image_base entry → BytesAt (written ++ memory) entry bytes →
    (d : LinkedCode) (t : ObjectSymbol) → Contains codes d → StubAt machine linked (placed_code d) t entry → StubArrives machine image_base (written ++ memory) d.position bytes
stub_arrives I386 image_base image linked codes targets memory at written covers_it name bytes entry once small can located d t held stub =
    let x = instruction_at I386 image_base image linked codes targets memory at written covers_it name bytes entry once small can located d 0 (0xFF ∷ 0x25 ∷ []) (0 ∷ 0 ∷ 0 ∷ 0 ∷ []) [] i386_dir32 2 held
    (subst (λ rs. MeetsAlone I386 rs 0 6 (record { offset = 2; symbol = 2; kind = i386_dir32 })) (sym stub.relocations) refl) refl
    (subst (λ xs. take 6 (drop 0 xs) ≡ 0xFF ∷ 0x25 ∷ 0 ∷ 0 ∷ 0 ∷ 0 ∷ []) (sym stub.bytes) refl) (refl, refl) (settled_in_tables I386 image_base image linked codes targets memory at d 2 entry stub.symbol held stub.held stub.placed) in
    x86_jumps (written ++ memory) d.position name bytes I386 image_base linked refl x
    (stub_part I386 image_base image linked codes targets memory at written covers_it d held (stub_relocations I386 2) 6 2 (0x90 ∷ 0x90 ∷ []) (subst (λ xs. take 2 (drop 6 xs) ≡ 0x90 ∷ 0x90 ∷ []) (sym stub.bytes) refl) stub.relocations refl)
    (jump_field (image_base + d.position) x.field x.four ∙ x.leads)
stub_arrives ARMNT image_base image linked codes targets memory at written covers_it name bytes entry once small can located d t held stub = absurd can
stub_arrives AMD64 image_base image linked codes targets memory at written covers_it name bytes entry once small can located d t held stub =
    let x = instruction_at AMD64 image_base image linked codes targets memory at written covers_it name bytes entry once small can located d 0 (0xFF ∷ 0x25 ∷ []) (0 ∷ 0 ∷ 0 ∷ 0 ∷ []) [] amd64_rel32 2 held
    (subst (λ rs. MeetsAlone AMD64 rs 0 6 (record { offset = 2; symbol = 2; kind = amd64_rel32 })) (sym stub.relocations) refl) refl
    (subst (λ xs. take 6 (drop 0 xs) ≡ 0xFF ∷ 0x25 ∷ 0 ∷ 0 ∷ 0 ∷ 0 ∷ []) (sym stub.bytes) refl) (0, (omega arith, (refl, refl))) (settled_in_tables AMD64 image_base image linked codes targets memory at d 2 entry stub.symbol held stub.held stub.placed) in
    x86_jumps (written ++ memory) d.position name bytes AMD64 image_base linked refl x
    (stub_part AMD64 image_base image linked codes targets memory at written covers_it d held (stub_relocations AMD64 2) 6 2 (0x90 ∷ 0x90 ∷ []) (subst (λ xs. take 2 (drop 6 xs) ≡ 0x90 ∷ 0x90 ∷ []) (sym stub.bytes) refl) stub.relocations refl)
    (amd64_jump (image_base + d.position) x.field x.four ∙ ap (λ a. Some (plus_signed 32 1 (number_in x.field) a)) (omega arith) ∙ x.leads)
stub_arrives ARM64 image_base image linked codes targets memory at written covers_it name bytes entry once small can located d t held stub =
    let size : length d.code.bytes ≡ 12 = ap length stub.bytes in
    let page_code : field_at d.code.bytes 0 4 ≡ 0x9000_0010 = ap (λ xs. field_at xs 0 4) stub.bytes in
    let load_code : field_at d.code.bytes 4 4 ≡ 0xF940_0210 = ap (λ xs. field_at xs 4 4) stub.bytes in
    let x : PairArrives image_base linked (written ++ memory) (d.position + 0) (d.position + 4) (field_at d.code.bytes 0 4) (field_at d.code.bytes 4 4) name bytes =
    pair_at image_base image linked codes targets memory at written covers_it name bytes entry once small can located d d 0 4 2 2 held held
    (subst (λ rs. MeetsAlone ARM64 rs 0 4 (record { offset = 0; symbol = 2; kind = arm64_pagebase_rel21 })) (sym stub.relocations) refl) (omega arith)
    (subst (λ rs. MeetsAlone ARM64 rs 4 4 (record { offset = 4; symbol = 2; kind = arm64_pageoffset_12l })) (sym stub.relocations) refl) (omega arith)
    (ap adrp_immediate page_code) (ap (bits_of 30 2) load_code) (ap ldr_immediate load_code)
    (settled_in_tables ARM64 image_base image linked codes targets memory at d 2 entry stub.symbol held stub.held stub.placed) (settled_in_tables ARM64 image_base image linked codes targets memory at d 2 entry stub.symbol held stub.held stub.placed) in
    let branch = stub_part ARM64 image_base image linked codes targets memory at written covers_it d held (stub_relocations ARM64 2) 8 4 (0 ∷ 2 ∷ 0x1F ∷ 0xD6 ∷ [])
    (subst (λ xs. take 4 (drop 8 xs) ≡ 0 ∷ 2 ∷ 0x1F ∷ 0xD6 ∷ []) (sym stub.bytes) refl) stub.relocations refl in
    let plain : d.position + 0 ≡ d.position = omega arith in
    let read = pair_read (jump_reads ARM64) 0x9000_0010 0xF940_0210 (0 ∷ 2 ∷ 0x1F ∷ 0xD6 ∷ []) arm64_jump image_base linked (written ++ memory) d.position (field_at d.code.bytes 0 4) (field_at d.code.bytes 4 4) name bytes
    (ap (with_adrp 0) page_code) (ap (with_bits 10 12 0) load_code)
    (subst (λ a. PairArrives image_base linked (written ++ memory) a (d.position + 4) (field_at d.code.bytes 0 4) (field_at d.code.bytes 4 4) name bytes) plain x) branch in
    record { code = read.code; there = read.there; whole = read.whole; entry = read.entry; reads = read.leads; located = read.located }

-- Calls by a name arrive, through the stub that defines it.

-- a call through a stub that arrives
by_stub : (machine : MachineType) (image_base : ℕ) (memory : List Range) (address stub : ℕ) (instruction bytes : List ℕ) → BytesAt memory address instruction → length instruction ≡ length (direct_bytes machine) →
    direct_leads machine (image_base + address) instruction ≡ Some (image_base + stub) → StubArrives machine image_base memory stub bytes → DirectCallArrives machine image_base memory address bytes
by_stub machine image_base memory address stub instruction bytes here whole leads arrives = grind (arith, whole)

-- I386's and AMD64's call.

module _ (machine : MachineType) (c : LinkedCode) (offset type : ℕ) (name : List ℕ) (wide : field_width machine type ≡ 4)
    (has : HasInstructions machine (placed_code c) offset name (0xE8 ∷ 0 ∷ 0 ∷ 0 ∷ 0 ∷ []) (λ index. record { offset = 1; symbol = index; kind = type } ∷ [])) where
  abbrev rs : ℕ → List Relocation
  rs index = record { offset = 1; symbol = index; kind = type } ∷ []

  abbrev code : List ℕ
  code = 0xE8 ∷ 0 ∷ 0 ∷ 0 ∷ 0 ∷ []

  call_alone : MeetsAlone machine c.code.relocations (offset + 1) (field_width machine type) (record { offset = offset + 1; symbol = has.index; kind = type })
  call_alone =
      let r : Relocation = record { offset = offset + 1; symbol = has.index; kind = type } in
      own_met machine c offset name code rs has (offset + 1) (field_width machine type) (omega arith) (omega arith) ∙ one_met machine (offset + 1) (field_width machine type) r (omega arith) (omega arith)

  call_branch : IsBranch machine type 0 0 → HasBranch machine c (offset + 1) 0 name
  call_branch counts =
      grind (arith, call_alone, own_inside machine c offset name code rs has, own_names machine c offset name code rs has, drop-drop 1 offset c.code.bytes, own_code machine c offset name code rs has)

  call_head : take 1 (drop offset c.code.bytes) ≡ 0xE8 ∷ []
  call_head = ap (take 1) (own_code machine c offset name code rs has)

  call_clear : list_any (meets machine offset 1) c.code.relocations ≡ false
  call_clear =
      let r : Relocation = record { offset = offset + 1; symbol = has.index; kind = type } in
      let misses : meets machine offset 1 r ≡ false = grind (arith, false_from_ne_true, meets_bounds) in
      own_any machine c offset name code rs has offset 1 (omega arith) (omega arith) (rw misses refl)

rel32_call : (address : ℕ) (field : List ℕ) → length field ≡ 4 → direct_leads AMD64 address (0xE8 ∷ field) ≡ Some (plus_signed 32 1 (number_in field) (address + 5))
rel32_call address field four = grind (arith, four_of field four)

x86_by_name : (machine : MachineType) (image_base : ℕ) (memory : List Range) (position offset stub : ℕ) (bytes : List ℕ) → length (direct_bytes machine) ≡ 5 →
    ((address : ℕ) (field : List ℕ) → length field ≡ 4 → direct_leads machine address (0xE8 ∷ field) ≡ Some (plus_signed 32 1 (number_in field) (address + 5))) →
    BytesAt memory (position + offset) (0xE8 ∷ []) → (x : BranchArrives machine image_base memory (position + (offset + 1)) 0 stub) →
    Some (plus_signed 32 1 x.number (image_base + (position + (offset + 1)) + 4 + 0)) ≡ Some (image_base + stub) → StubArrives machine image_base memory stub bytes →
    DirectCallArrives machine image_base memory (position + offset) bytes
x86_by_name machine image_base memory position offset stub bytes size reads head x leads arrives =
    let field : List ℕ = x.there.bytes in
    let field_place : position + (offset + 1) ≡ position + offset + 1 = omega arith in
    let long : length (0xE8 ∷ x.there.bytes) ≡ 5 = omega arith in
    by_stub machine image_base memory (position + offset) stub (0xE8 ∷ field) bytes (joined memory (0xE8 ∷ []) field (position + offset) head (subst (λ a. BytesAt memory a field) field_place x.there.located)) (long ∙ sym size)
    (reads (image_base + (position + offset)) field x.there.count ∙ ap (λ n. Some (plus_signed 32 1 n (image_base + (position + offset) + 5))) x.there.value
    ∙ ap (λ a. Some (plus_signed 32 1 x.number a)) (omega arith) ∙ leads) arrives

pub direct_arrives : (machine : MachineType) (image_base : ℕ) (image : List Range) (linked : List Placed) (codes : List LinkedCode) (targets : LinkedCode → ℕ → ℕ) (memory : List Range)
    (at : Rests machine image_base image linked codes targets memory) (written : List Range) (covers_it : AllByRecursion (Covers image) written) (c : LinkedCode) (offset stub : ℕ) (name bytes : List ℕ) →
    Contains codes c → HasDirectCall machine (placed_code c) offset name → ((index : ℕ) → Names c.from index name → targets c index ≡ stub) → stub < 2 ^ 31 → CanBranch machine (c.position + offset) stub →
    StubArrives machine image_base (written ++ memory) stub bytes → DirectCallArrives machine image_base (written ++ memory) (c.position + offset) bytes
direct_arrives I386 image_base image linked codes targets memory at written covers_it c offset stub name bytes held has taken small can arrives =
    let x : BranchArrives I386 image_base (written ++ memory) (c.position + (offset + 1)) 0 stub =
    branch_reaches I386 image_base image linked codes targets memory at written covers_it c (offset + 1) 0 stub name held (call_branch I386 c offset i386_rel32 name refl has (refl, refl)) taken small tt in
    x86_by_name I386 image_base (written ++ memory) c.position offset stub bytes refl rel32_call
    (subst (BytesAt (written ++ memory) (c.position + offset)) (call_head I386 c offset i386_rel32 name refl has)
    (part_there I386 image_base image linked codes targets memory at written covers_it c (contains_among c codes held) offset 1 (call_clear I386 c offset i386_rel32 name refl has))) x x.leads arrives
direct_arrives ARMNT image_base image linked codes targets memory at written covers_it c offset stub name bytes held has taken small can arrives = absurd can
direct_arrives AMD64 image_base image linked codes targets memory at written covers_it c offset stub name bytes held has taken small can arrives =
    let x : BranchArrives AMD64 image_base (written ++ memory) (c.position + (offset + 1)) 0 stub =
    branch_reaches AMD64 image_base image linked codes targets memory at written covers_it c (offset + 1) 0 stub name held (call_branch AMD64 c offset amd64_rel32 name refl has (0, (omega arith, (refl, refl)))) taken small tt in
    x86_by_name AMD64 image_base (written ++ memory) c.position offset stub bytes refl rel32_call
    (subst (BytesAt (written ++ memory) (c.position + offset)) (call_head AMD64 c offset amd64_rel32 name refl has)
    (part_there AMD64 image_base image linked codes targets memory at written covers_it c (contains_among c codes held) offset 1 (call_clear AMD64 c offset amd64_rel32 name refl has))) x x.leads arrives
direct_arrives ARM64 image_base image linked codes targets memory at written covers_it c offset stub name bytes held has taken small can arrives =
    let own : ℕ → List Relocation = direct_relocations ARM64 in
    let code : List ℕ = direct_bytes ARM64 in
    let r : Relocation = record { offset = offset + 0; symbol = has.index; kind = arm64_branch26 } in
    let alone : MeetsAlone ARM64 c.code.relocations offset 4 (record { offset = offset; symbol = has.index; kind = arm64_branch26 }) = grind (arith, own_met ARM64 c offset name code own has offset 4 (omega arith) (omega arith), one_met ARM64 offset 4 r (omega arith) (omega arith)) in
    let end : offset + 4 ≤ length c.code.bytes = own_inside ARM64 c offset name code own has in
    let old : field_at c.code.bytes offset 4 ≡ 0x9400_0000 = ap (λ xs. number_in (take 4 xs)) (own_code ARM64 c offset name code own has) in
    let found = steady_there ARM64 image_base image linked codes targets memory at written covers_it c (contains_among c codes held) offset arm64_branch26 has.index alone (omega arith) refl in
    grind (arith, read_word found.1.0.bytes found.1.0.count, by_stub)
