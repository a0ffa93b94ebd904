-- Linked code in memory, at the base that it was linked for and at any other: its bytes and its fields.
use Rattle.std.proofs.Common.{◌≡◌, ℕ, ◌+◌, ◌^◌, ◌<◌, ◌≤◌, ◌⊎◌, true, false, List, [], ◌∷◌, ◌++◌, length, take, drop, None, Some, refl, ap, sym, ◌∙◌, subst, inl, inr, arith, true≢false}
use Rattle.std.specs.Prelude.{slice_get}
use Rattle.std.specs.List.{AllByRecursion, Contains, list_any}
use Rattle.std.proofs.lemmas.Bool.{false_from_ne_true}
use Rattle.std.proofs.lemmas.List.{length-drop, length-take, length-take-le}
use Rattle.std.proofs.lemmas.Option.{slice_get_within, none-some}
use Rattle.implib.specs.declared.coff.object.Relocation.{Relocation}
use Rattle.implib.specs.declared.machine.MachineType.{MachineType}
use Rattle.implib.specs.Formats.Object.{ASymbol, Entry, ObjectSymbol}
use Rattle.implib.specs.Link.Image.{Range, byte_at, is_in}
use Rattle.implib.specs.Link.Load.{BytesAt, NumberAt}
use Rattle.implib.specs.Link.Placement.{Placed}
use Rattle.implib.specs.Link.Resolution.{is_undefined_external, symbol_address}
use Rattle.implib.proofs.Link.LinkedMembers.{among_contains, among_map}
use Rattle.implib.proofs.Link.Ranges.{Among, all_among, among_back, is_in_from, range_located}
use Rattle.implib_link.specs.Gnu.Fields.{field_width, AreLinkedBeside, DefinesIn, FieldHolds, IsRelocated, LinkedCode, MeetsAlone, field_at, meets, range_of_code, ranges_of_codes, Place, absolute_width, covers, moved_number, table_places}
use Rattle.implib_link.specs.Gnu.Moves.{AreInMemory, AreMoved, ArePaged, places_of_code}
use Rattle.implib_link.specs.Gnu.Stored.{AreFurtherHeld, AreStoredInMemory, StoresAreMoved}
use Rattle.implib_link.proofs.Gnu.Fields.{alone_among, alone_same, covering_one, get_drop, get_take, holds_moved, holds_steady, located_each, located_from, meets_bounds, meets_from, meeting, whole_width}
use Rattle.implib_link.proofs.Gnu.Loaded.{Keeps, kept_outside, Covers, byte_front, code_untouched, holder, not_in_both}
use Rattle.implib_link.proofs.Gnu.Places.{apart_back, covering, none_covers, one_code, places_from}

-- What memory has of a program at a base, wherever its code was linked for: the image, the bytes of code where no field
-- stores an address whole, and in such fields of the tables' symbols the number, moved.
pub record Rests (machine : MachineType) (image_base : ℕ) (image : List Range) (linked : List Placed) (codes : List LinkedCode) (targets : LinkedCode → ℕ → ℕ) (memory : List Range) : Type 0 where
  pub from : ℕ
  pub beside : AreLinkedBeside machine from image linked codes targets
  pub paged : ArePaged machine from image_base
  pub image_kept : Keeps image memory
  pub code_kept : (c : LinkedCode) (k b : ℕ) → Among c codes → slice_get c.bytes k ≡ Some b → list_any (covers (c.position + k)) (places_of_code machine c) ≡ false → byte_at memory (c.position + k) ≡ Some b
  pub whole : (c : LinkedCode) (r : Relocation) (width address n : ℕ) (entry : Entry) → Contains codes c → Among r c.code.relocations → absolute_width machine r.kind ≡ Some width →
      slice_get c.from.object.entries r.symbol ≡ Some entry → symbol_address linked c.from entry ≡ Some address → NumberAt (image ++ ranges_of_codes codes) width (c.position + r.offset) n →
      ((from ≡ image_base) × NumberAt memory width (c.position + r.offset) n) ⊎ NumberAt memory width (c.position + r.offset) (moved_number width from image_base n)

pub same_pages : (machine : MachineType) (base : ℕ) → ArePaged machine base base
same_pages machine base = grind arith

module _ (machine : MachineType) (image_base : ℕ) (image : List Range) (linked : List Placed) (codes : List LinkedCode) (targets : LinkedCode → ℕ → ℕ) where
  linked_byte : (from : ℕ) → AreLinkedBeside machine from image linked codes targets → (c : LinkedCode) (k b : ℕ) → Among c codes → slice_get c.bytes k ≡ Some b →
      byte_at (image ++ ranges_of_codes codes) (c.position + k) ≡ Some b
  linked_byte from beside c k b m is = grind (arith, among_back (range_of_code c) image (ranges_of_codes codes) (among_map range_of_code c codes m), among_map range_of_code c codes m, located_each, range_located, beside)

  pub linked_rests : AreLinkedBeside machine image_base image linked codes targets → Rests machine image_base image linked codes targets (image ++ ranges_of_codes codes)
  unfolding Keeps
  linked_rests beside = record {
    from = image_base;
    beside = beside;
    paged = same_pages machine image_base;
    image_kept = λ a b is. byte_front image (ranges_of_codes codes) a b is;
    code_kept = λ c k b m is clear. linked_byte image_base beside c k b m is;
    whole = λ c r width address n entry held m is symbol own number. inl (refl, number);
  }

  module _ (from : ℕ) (places : List Place) (memory : List Range) (moved : AreMoved machine from image_base image linked codes targets places memory) (none : table_places machine linked ≡ []) where
    range_covers : (a : ℕ) (d : LinkedCode) → Among d codes → list_any (covers a) (places_of_code machine d) ≡ true → is_in a (range_of_code d) ≡ true
    range_covers a d m covered =
        let inside = all_among (λ (x : LinkedCode). AllByRecursion (λ (p : Place). p.address + p.width ≤ x.position + length x.code.bytes) (places_of_code machine x)) d codes m moved.within in
        grind (arith, covering a d.position (d.position + length d.code.bytes) (places_of_code machine d) (places_from machine d.position d.code.relocations) inside covered, is_in_from, all_among)

    uncovered : (a b : ℕ) → byte_at (image ++ ranges_of_codes codes) a ≡ Some b → ((d : LinkedCode) → Among d codes → is_in a (range_of_code d) ≡ true → list_any (covers a) (places_of_code machine d) ≡ false) →
        list_any (covers a) places ≡ false
    uncovered a b is each = grind (arith, none_covers, false_from_ne_true, range_covers)

    moved_rests : ArePaged machine from image_base → Rests machine image_base image linked codes targets memory
    unfolding Keeps
    moved_rests paged = record {
      from = from;
      beside = moved.beside;
      paged = paged;
      image_kept = λ a b is.
          let found = holder image a b is in
          let there : byte_at (image ++ ranges_of_codes codes) a ≡ Some b = byte_front image (ranges_of_codes codes) a b is in
          moved.rebased.kept a b
          (uncovered a b there (λ d m within. absurd (not_in_both image (ranges_of_codes codes) found.0 (range_of_code d) a moved.beside.apart found.1.0 (among_map range_of_code d codes m) found.1.1 within)))
          there;
      code_kept = λ c k b m is clear.
          let there : byte_at (image ++ ranges_of_codes codes) (c.position + k) ≡ Some b = linked_byte from moved.beside c k b m is in
          let small : k < length c.bytes = slice_get_within c.bytes k b is in
          let here : is_in (c.position + k) (range_of_code c) ≡ true = is_in_from (c.position + k) (range_of_code c) (omega arith) (omega arith) in
          moved.rebased.kept (c.position + k) b
          (uncovered (c.position + k) b there (λ d n inside.
          subst (λ (x : LinkedCode). list_any (covers (c.position + k)) (places_of_code machine x) ≡ false)
          (one_code range_of_code (c.position + k) c d codes (apart_back image (ranges_of_codes codes) moved.beside.apart) m n here inside) clear))
          there;
      whole = λ c r width address n entry held m is symbol own number.
          inr (moved.rebased.moved (record { address = c.position + r.offset; width = width }) n (moved.needed c r width address entry held (among_contains r c.code.relocations m) is symbol own) number);
    }

pub rests : (machine : MachineType) (image_base : ℕ) (image : List Range) (linked : List Placed) (codes : List LinkedCode) (targets : LinkedCode → ℕ → ℕ) (memory : List Range) →
    AreInMemory machine image_base image linked codes targets memory → table_places machine linked ≡ [] → Rests machine image_base image linked codes targets memory
rests machine image_base image linked codes targets memory (inl at) none = subst (Rests machine image_base image linked codes targets) (sym at.1) (linked_rests machine image_base image linked codes targets at.0)
rests machine image_base image linked codes targets memory (inr (from, (places, (paged, moved)))) none = moved_rests machine image_base image linked codes targets from places memory moved none paged

-- What is known of a symbol of linked code: the address that it is taken to be at, and that memory has it where it is stored whole.
pub record Settles (machine : MachineType) (image_base : ℕ) (image : List Range) (linked : List Placed) (codes : List LinkedCode) (targets : LinkedCode → ℕ → ℕ) (memory : List Range)
    (at : Rests machine image_base image linked codes targets memory) (c : LinkedCode) (symbol address : ℕ) : Type 0 where
  pub taken : targets c symbol ≡ address
  pub whole : (r : Relocation) (width n : ℕ) → r.symbol ≡ symbol → Among r c.code.relocations → absolute_width machine r.kind ≡ Some width → NumberAt (image ++ ranges_of_codes codes) width (c.position + r.offset) n →
      ((at.from ≡ image_base) × NumberAt memory width (c.position + r.offset) n) ⊎ NumberAt memory width (c.position + r.offset) (moved_number width at.from image_base n)

-- of one that has an address in the tables
pub settled_in_tables : (machine : MachineType) (image_base : ℕ) (image : List Range) (linked : List Placed) (codes : List LinkedCode) (targets : LinkedCode → ℕ → ℕ) (memory : List Range)
    (at : Rests machine image_base image linked codes targets memory) (c : LinkedCode) (symbol address : ℕ) (entry : Entry) → Contains codes c → slice_get c.from.object.entries symbol ≡ Some entry →
    symbol_address linked c.from entry ≡ Some address → Settles machine image_base image linked codes targets memory at c symbol address
settled_in_tables machine image_base image linked codes targets memory at c symbol address entry held found placed = grind arith

-- at the base that code was linked for, of any
pub settled_linked : (machine : MachineType) (image_base : ℕ) (image : List Range) (linked : List Placed) (codes : List LinkedCode) (targets : LinkedCode → ℕ → ℕ)
    (beside : AreLinkedBeside machine image_base image linked codes targets) (c : LinkedCode) (symbol address : ℕ) → targets c symbol ≡ address →
    Settles machine image_base image linked codes targets (image ++ ranges_of_codes codes) (linked_rests machine image_base image linked codes targets beside) c symbol address
unfolding linked_rests
settled_linked machine image_base image linked codes targets beside c symbol address taken = record { taken = taken; whole = λ r width n same m is number. inl (refl, number) }

-- What memory has of a program at a base, with the addresses that its code holds.
pub record StoredRests (machine : MachineType) (image_base : ℕ) (image : List Range) (linked : List Placed) (codes : List LinkedCode) (targets : LinkedCode → ℕ → ℕ) (memory : List Range) : Type 0 where
  pub rests : Rests machine image_base image linked codes targets memory
  pub further : AreFurtherHeld machine rests.from codes targets
  pub settled : (c d : LinkedCode) (index : ℕ) (s t : ObjectSymbol) → Contains codes c → Contains codes d → slice_get c.from.object.entries index ≡ Some (ASymbol s) → is_undefined_external s ≡ true →
      DefinesIn d t → t.name ≡ s.name → Settles machine image_base image linked codes targets memory rests c index (d.position + t.value)

linked_stores : (machine : MachineType) (image_base : ℕ) (image : List Range) (linked : List Placed) (codes : List LinkedCode) (targets : LinkedCode → ℕ → ℕ) → AreLinkedBeside machine image_base image linked codes targets →
    AreFurtherHeld machine image_base codes targets → StoredRests machine image_base image linked codes targets (image ++ ranges_of_codes codes)
unfolding linked_rests
linked_stores machine image_base image linked codes targets beside further = record {
  rests = linked_rests machine image_base image linked codes targets beside;
  further = further;
  settled = λ c d index s t held d_held at undefined defines named.
      settled_linked machine image_base image linked codes targets beside c index (d.position + t.value) (beside.resolved.code c d index s t held d_held at undefined defines named);
}

moved_stores : (machine : MachineType) (image_base : ℕ) (image : List Range) (linked : List Placed) (codes : List LinkedCode) (targets : LinkedCode → ℕ → ℕ) (from : ℕ) (places : List Place) (memory : List Range) →
    AreMoved machine from image_base image linked codes targets places memory → table_places machine linked ≡ [] → ArePaged machine from image_base → AreFurtherHeld machine from codes targets → StoresAreMoved machine codes places →
    StoredRests machine image_base image linked codes targets memory
unfolding moved_rests
moved_stores machine image_base image linked codes targets from places memory moved none paged further stores = record {
  rests = moved_rests machine image_base image linked codes targets from places memory moved none paged;
  further = further;
  settled = λ c d index s t held d_held at undefined defines named. record {
    taken = moved.beside.resolved.code c d index s t held d_held at undefined defines named;
    whole = λ r width n same m is number.
        inr (moved.rebased.moved (record { address = c.position + r.offset; width = width }) n
        (stores c d r width s t held d_held (among_contains r c.code.relocations m) is (subst (λ k. slice_get c.from.object.entries k ≡ Some (ASymbol s)) (sym same) at) undefined defines named) number);
  };
}

pub stored_rests : (machine : MachineType) (image_base : ℕ) (image : List Range) (linked : List Placed) (codes : List LinkedCode) (targets : LinkedCode → ℕ → ℕ) (memory : List Range) →
    AreStoredInMemory machine image_base image linked codes targets memory → table_places machine linked ≡ [] → StoredRests machine image_base image linked codes targets memory
stored_rests machine image_base image linked codes targets memory (inl (beside, (further, is))) none = grind (arith, inl, beside, further, linked_stores)
stored_rests machine image_base image linked codes targets memory (inr (from, (places, (paged, (moved, (further, stores)))))) none = grind (arith, inr, from, paged, further, moved_stores)

-- so it is in memory
pub stored_in_memory : (machine : MachineType) (image_base : ℕ) (image : List Range) (linked : List Placed) (codes : List LinkedCode) (targets : LinkedCode → ℕ → ℕ) (memory : List Range) →
    AreStoredInMemory machine image_base image linked codes targets memory → AreInMemory machine image_base image linked codes targets memory
stored_in_memory machine image_base image linked codes targets memory h7 = grind arith

any_meets : (machine : MachineType) (k count : ℕ) (rs : List Relocation) (s : Relocation) → Among s rs → meets machine k count s ≡ true → list_any (meets machine k count) rs ≡ true
unfolding Among
any_meets machine k count [] s m is = absurd m
any_meets machine k count (r ∷ rs) s (inl same) is = rw (subst (λ (x : Relocation). meets machine k count x ≡ true) same is) refl
any_meets machine k count (r ∷ rs) s (inr m) is = grind (arith, any_meets machine k count rs s m is)

-- Code in the memory of a loaded program.
module _ (machine : MachineType) (image_base : ℕ) (image : List Range) (linked : List Placed) (codes : List LinkedCode) (targets : LinkedCode → ℕ → ℕ) (memory : List Range)
    (at : Rests machine image_base image linked codes targets memory) (written : List Range) (covers_it : AllByRecursion (Covers image) written) (c : LinkedCode) (m : Among c codes) where
  pub own : IsRelocated machine at.from (targets c) c.position c.code c.bytes
  own = all_among (λ (x : LinkedCode). IsRelocated machine at.from (targets x) x.position x.code x.bytes) c codes m at.beside.relocated

  pub own_end : c.position + length c.code.bytes + 16 ≤ 2 ^ 31
  own_end = all_among (λ (x : LinkedCode). x.position + length x.code.bytes + 16 ≤ 2 ^ 31) c codes m at.beside.ends

  -- what a loader writes leaves code as it is
  unwritten : (k b : ℕ) → k < length c.code.bytes → byte_at memory (c.position + k) ≡ Some b → byte_at (written ++ memory) (c.position + k) ≡ Some b
  unwritten k b small is =
      let here : is_in (c.position + k) (range_of_code c) ≡ true = is_in_from (c.position + k) (range_of_code c) (omega (arith, own.size)) (omega (arith, own.size)) in
      cc (kept_outside written memory (c.position + k) (code_untouched image (ranges_of_codes codes) written (range_of_code c) (c.position + k) covers_it at.beside.apart (among_map range_of_code c codes m) here))

  pub number_unwritten : (offset width n : ℕ) → offset + width ≤ length c.code.bytes → NumberAt memory width (c.position + offset) n → NumberAt (written ++ memory) width (c.position + offset) n
  number_unwritten offset width n inside number =
      let count : length number.bytes ≡ width = number.count in
      record {
        bytes = number.bytes;
        located = located_from (written ++ memory) number.bytes (c.position + offset) (λ i b is.
            let small : i < length number.bytes = slice_get_within number.bytes i b is in
            let place : c.position + offset + i ≡ c.position + (offset + i) = omega arith in
            subst (λ a. byte_at (written ++ memory) a ≡ Some b) (sym place)
            (unwritten (offset + i) b (omega arith) (subst (λ a. byte_at memory a ≡ Some b) place (located_each memory number.bytes (c.position + offset) i b number.located is))));
        count = number.count;
        value = number.value;
      }

  -- bytes of code in no field are in memory as they were in the object
  pub bytes_there : (offset : ℕ) (bytes : List ℕ) →
      ((i b : ℕ) → slice_get bytes i ≡ Some b → (slice_get c.code.bytes (offset + i) ≡ Some b) × (list_any (meets machine (offset + i) 1) c.code.relocations ≡ false)) →
      BytesAt (written ++ memory) (c.position + offset) bytes
  bytes_there offset bytes each =
      located_from (written ++ memory) bytes (c.position + offset) (λ i b is.
      let both = each i b is in
      let small : offset + i < length c.code.bytes = slice_get_within c.code.bytes (offset + i) b both.0 in
      subst (λ a. byte_at (written ++ memory) a ≡ Some b) (sym (omega arith))
      (unwritten (offset + i) b small (at.code_kept c (offset + i) b m (own.kept (offset + i) both.1 ∙ both.0) (grind (arith, false_from_ne_true, covering_one, any_meets)))))

  -- bytes that no relocation meets are in memory as they were
  pub part_there : (offset count : ℕ) → list_any (meets machine offset count) c.code.relocations ≡ false → BytesAt (written ++ memory) (c.position + offset) (take count (drop offset c.code.bytes))
  part_there offset count none =
      bytes_there offset (take count (drop offset c.code.bytes)) (λ i b got.
      let small : i < length (take count (drop offset c.code.bytes)) = slice_get_within (take count (drop offset c.code.bytes)) i b got in
      let within : i < count = omega (arith, length-take count (drop offset c.code.bytes)) in (
        sym (get_drop offset c.code.bytes i) ∙ get_take count (drop offset c.code.bytes) i b got,
        false_from_ne_true (list_any (meets machine (offset + i) 1) c.code.relocations) (λ met.
            let s = meeting machine (offset + i) c.code.relocations met in
            let bounds = meets_bounds machine (offset + i) 1 s.0 s.1.1 in
            let high : offset + i < s.0.offset + field_width machine s.0.kind = bounds.1 in
            true≢false (sym (any_meets machine offset count c.code.relocations s.0 s.1.0 (meets_from machine offset count s.0 (omega (arith, bounds.0)) (omega (arith, bounds.0)))) ∙ none)),
      ))

  -- A field that no other relocation meets.
  module _ (offset type symbol : ℕ) (alone : MeetsAlone machine c.code.relocations offset (field_width machine type) (record { offset = offset; symbol = symbol; kind = type }))
      (inside : offset + field_width machine type ≤ length c.code.bytes) where
    abbrev r : Relocation
    r = record { offset = offset; symbol = symbol; kind = type }

    holds_linked : FieldHolds machine type at.from (c.position + offset) (targets c symbol) (field_at c.code.bytes offset) (field_at c.bytes offset)
    holds_linked = own.fields (record { offset = offset; symbol = symbol; kind = type }) alone inside

    field_byte : (i b : ℕ) → slice_get (take (field_width machine type) (drop offset c.bytes)) i ≡ Some b → (slice_get c.bytes (offset + i) ≡ Some b) × (i < field_width machine type)
    field_byte i b is = grind (arith, slice_get_within (take (field_width machine type) (drop offset c.bytes)) i b is, get_drop offset c.bytes i, get_take (field_width machine type) (drop offset c.bytes) i b is)

    -- one that stores no address whole is in memory as it was linked
    pub linked_there : absolute_width machine type ≡ None → NumberAt (written ++ memory) (field_width machine type) (c.position + offset) (field_at c.bytes offset (field_width machine type))
    linked_there none =
        number_unwritten offset (field_width machine type) (field_at c.bytes offset (field_width machine type)) inside (record {
          bytes = take (field_width machine type) (drop offset c.bytes);
          located = located_from memory (take (field_width machine type) (drop offset c.bytes)) (c.position + offset) (λ i b is.
              let found = field_byte i b is in
              let clear : list_any (covers (c.position + (offset + i))) (places_of_code machine c) ≡ false =
              false_from_ne_true (list_any (covers (c.position + (offset + i))) (places_of_code machine c)) (λ covered.
              let s = covering_one machine c.position (offset + i) c.code.relocations covered in
              let bounds = meets_bounds machine (offset + i) 1 s.0 s.1.1.0 in
              let low : s.0.offset < offset + i + 1 = bounds.0 in
              let high : offset + i < s.0.offset + field_width machine s.0.kind = bounds.1 in
              let same : s.0 ≡ r = alone_same machine c.code.relocations offset (field_width machine type) r alone s.0 s.1.0 (meets_from machine offset (field_width machine type) s.0 (omega arith) (omega arith)) in
              let other : absolute_width machine type ≡ Some s.1.1.1.0 = subst (λ (x : Relocation). absolute_width machine x.kind ≡ Some s.1.1.1.0) same s.1.1.1.1 in
              none-some s.1.1.1.0 (sym none ∙ other)) in
              subst (λ a. byte_at memory a ≡ Some b) (sym (omega (arith, found.1))) (at.code_kept c (offset + i) b m found.0 clear));
          count = (grind (arith, own, length-take-le, length-drop));
          value = refl;
        })

    pub steady_there : absolute_width machine type ≡ None →
        (new : ℕ → ℕ) × (NumberAt (written ++ memory) (field_width machine type) (c.position + offset) (new (field_width machine type))
        × FieldHolds machine type image_base (c.position + offset) (targets c symbol) (field_at c.code.bytes offset) new)
    steady_there none = grind (arith, linked_there, holds_steady, holds_linked)

    -- one that stores an address whole has it at the base
    whole_there : (width address : ℕ) → absolute_width machine type ≡ Some width → Settles machine image_base image linked codes targets memory at c symbol address →
        (new : ℕ → ℕ) × (NumberAt (written ++ memory) (field_width machine type) (c.position + offset) (new (field_width machine type))
        × FieldHolds machine type image_base (c.position + offset) (targets c symbol) (field_at c.code.bytes offset) new)
    whole_there width address is settles =
        let wide : ℕ = field_width machine type in
        let whole : absolute_width machine type ≡ Some wide = is ∙ ap Some (whole_width machine type width is) in
        let linked_number : NumberAt (image ++ ranges_of_codes codes) wide (c.position + offset) (field_at c.bytes offset wide) = record {
          bytes = take wide (drop offset c.bytes);
          located = located_from (image ++ ranges_of_codes codes) (take wide (drop offset c.bytes)) (c.position + offset) (λ i b got.
              subst (λ a. byte_at (image ++ ranges_of_codes codes) a ≡ Some b) (sym (omega arith))
              (linked_byte machine image_base image linked codes targets at.from at.beside c (offset + i) b m (field_byte i b got).0));
          count = (grind (arith, own, length-take-le, length-drop));
          value = refl;
        } in
        elim (settles.whole r wide (field_at c.bytes offset wide) refl (alone_among machine c.code.relocations offset wide r alone) whole linked_number) [
          | inl (same, number) ↦ (
            field_at c.bytes offset,
            (
              number_unwritten offset wide (field_at c.bytes offset wide) inside number,
              subst (λ base. FieldHolds machine type base (c.position + offset) (targets c symbol) (field_at c.code.bytes offset) (field_at c.bytes offset)) same holds_linked,
            ),
          )
          | inr number ↦ (
            λ w. moved_number w at.from image_base (field_at c.bytes offset w),
            (
              number_unwritten offset wide (moved_number wide at.from image_base (field_at c.bytes offset wide)) inside number,
              holds_moved machine type wide at.from image_base (c.position + offset) (targets c symbol) (field_at c.code.bytes offset) (field_at c.bytes offset) whole holds_linked,
            ),
          )
        ]

    pub field_there : (address : ℕ) → Settles machine image_base image linked codes targets memory at c symbol address →
        (new : ℕ → ℕ) × (NumberAt (written ++ memory) (field_width machine type) (c.position + offset) (new (field_width machine type))
        × FieldHolds machine type image_base (c.position + offset) address (field_at c.code.bytes offset) new)
    field_there address settles =
        subst (λ n. (new : ℕ → ℕ) × (NumberAt (written ++ memory) (field_width machine type) (c.position + offset) (new (field_width machine type))
        × FieldHolds machine type image_base (c.position + offset) n (field_at c.code.bytes offset) new)) settles.taken
        (elim (absolute_width machine type) as (λ o. absolute_width machine type ≡ o →
        (new : ℕ → ℕ) × (NumberAt (written ++ memory) (field_width machine type) (c.position + offset) (new (field_width machine type))
        × FieldHolds machine type image_base (c.position + offset) (targets c symbol) (field_at c.code.bytes offset) new)) [
          | None ↦ λ none. steady_there none
          | Some width ↦ λ some. whole_there width address some settles
        ] refl)
