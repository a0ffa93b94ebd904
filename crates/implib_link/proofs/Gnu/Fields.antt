-- Parts of instructions, and pages at two bases that differ by whole ones.
use Rattle.std.proofs.Common.{◌≡◌, ℕ, suc, ◌+◌, ◌%◌, List, [], ◌∷◌, ◌++◌, length, Some, refl, sym, subst, arith, ◌≤◌, ap, ◌∙◌, inr, zero, ◌<◌, Bool, true, false, take, drop, None, inl, ◌*◌, map, Option}
use Rattle.implib.specs.declared.machine.MachineType.TheVariants.{I386, ARM64}
use Rattle.implib.specs.Link.Image.{Range, byte_at}
use Rattle.implib.specs.Link.Load.{BytesAt, number_in}
use Rattle.implib_link.specs.Stub.{jump_reads, page, adrp_immediate, ldr_immediate, plus_signed, with_adrp, with_bits, word_at}
use Rattle.std.specs.List.{AllByRecursion, list_any, filter}
use Rattle.implib.specs.declared.coff.object.Relocation.{Relocation}
use Rattle.implib.specs.declared.machine.MachineType.{MachineType}
use Rattle.implib.specs.Link.Placement.{Placed}
use Rattle.implib.proofs.Link.Ranges.{Among}
use Rattle.implib_link.specs.Gnu.Fields.{LinkedCode, field_width, i386_rel32, FieldHolds, MeetsAlone, meets, HasInstructions, IsAside, moved_by, placed_code, Names, PairArrives, absolute_width, covers, moved_number, places_at}
use Rattle.implib_link.specs.Gnu.Moves.{ArePaged}
use Rattle.implib_link.proofs.Gnu.Places.{covered_bounds, narrow}
use Rattle.implib_link.proofs.Search.Lists.{passes as among_filter, among_filter as filter_among, any_of}
use Rattle.std.specs.Prelude.{◌==◌, if◌then◌else◌, slice_get}
use Rattle.std.proofs.lemmas.Bool.{eqb-true}
use Rattle.implib.specs.Formats.Constants.{i386_dir32, arm64_pagebase_rel21, arm64_pageoffset_12l}
use Rattle.std.proofs.lemmas.List.{append-nil, drop_at, length-append}
use Rattle.std.proofs.lemmas.List.Elements.{filter-append}
use Rattle.std.proofs.lemmas.List.Folds.{list_any-append}

pub joined : (memory : List Range) (xs ys : List ℕ) (a : ℕ) → BytesAt memory a xs → BytesAt memory (a + length xs) ys → BytesAt memory a (xs ++ ys)
unfolding BytesAt
joined memory [] ys a first second = let plain : a + 0 ≡ a = omega arith in subst (λ n. BytesAt memory n ys) plain second
joined memory (x ∷ xs) ys a first second =
    (first.0, joined memory xs ys (a + 1) first.1 (subst (λ n. BytesAt memory n ys) (omega arith) second))

-- four bytes
pub record Four (bytes : List ℕ) : Type 0 where
  pub a : ℕ
  pub b : ℕ
  pub c : ℕ
  pub d : ℕ
  pub is : bytes ≡ a ∷ b ∷ c ∷ d ∷ []

pub four_of : (bytes : List ℕ) → length bytes ≡ 4 → Four bytes
four_of (a ∷ b ∷ c ∷ d ∷ []) four = record { a = a; b = b; c = c; d = d; is = refl }
four_of bytes four = cc

pub jump_field : (address : ℕ) (field : List ℕ) → length field ≡ 4 → jump_reads I386 address (0xFF ∷ 0x25 ∷ (field ++ 0x90 ∷ 0x90 ∷ [])) ≡ Some (number_in field)
jump_field address field four = let f = four_of field four in subst (λ xs. jump_reads I386 address (0xFF ∷ 0x25 ∷ (xs ++ 0x90 ∷ 0x90 ∷ [])) ≡ Some (number_in xs)) (sym f.is) refl

-- Fields of relocations: which of them meet bytes, and what they hold at another base.

-- Lists by their places.

pub get_drop : (n : ℕ) (xs : List ℕ) (i : ℕ) → slice_get (drop n xs) i ≡ slice_get xs (n + i)
get_drop zero xs i = let same : i ≡ 0 + i = omega arith in ap (slice_get xs) same
get_drop (suc n) [] i = refl
get_drop (suc n) (x ∷ xs) i = let same : suc (n + i) ≡ suc n + i = omega arith in get_drop n xs i ∙ ap (slice_get (x ∷ xs)) same

pub get_take : (n : ℕ) (xs : List ℕ) (i b : ℕ) → slice_get (take n xs) i ≡ Some b → slice_get xs i ≡ Some b
get_take zero xs i b is = cc
get_take (suc n) [] i b is = is
get_take (suc n) (x ∷ xs) zero b is = is
get_take (suc n) (x ∷ xs) (suc i) b is = get_take n xs i b is

pub get_front : (xs ys : List ℕ) (i b : ℕ) → slice_get xs i ≡ Some b → slice_get (xs ++ ys) i ≡ Some b
get_front [] ys i b is = cc
get_front (x ∷ xs) ys zero b is = is
get_front (x ∷ xs) ys (suc i) b is = get_front xs ys i b is

-- bytes are in memory where each of them is
pub located_from : (memory : List Range) (bytes : List ℕ) (a : ℕ) → ((i b : ℕ) → slice_get bytes i ≡ Some b → byte_at memory (a + i) ≡ Some b) → BytesAt memory a bytes
unfolding BytesAt
located_from memory [] a each = tt
located_from memory (x ∷ bytes) a each =
    let first : a + 0 ≡ a = omega arith in (
      subst (λ n. byte_at memory n ≡ Some x) first (each 0 x refl),
      located_from memory bytes (a + 1) (λ i b is. let next : a + suc i ≡ a + 1 + i = omega arith in subst (λ n. byte_at memory n ≡ Some b) next (each (suc i) b is)),
    )

pub located_each : (memory : List Range) (bytes : List ℕ) (a i b : ℕ) → BytesAt memory a bytes → slice_get bytes i ≡ Some b → byte_at memory (a + i) ≡ Some b
unfolding BytesAt
located_each memory (x ∷ bytes) a (suc i) b located is = grind (arith, located_each memory bytes (a + 1) i b located.1 is)
located_each memory bytes a i b located is = grind arith

-- Which relocations meet bytes.

filter_twice : {X : Type 0} (p q : X → Bool) (xs : List X) → ((x : X) → q x ≡ true → p x ≡ true) → filter q xs ≡ filter q (filter p xs)
filter_twice p q [] each = refl
filter_twice p q (x ∷ xs) each = grind (arith, filter_twice p q xs each)

module _ (machine : MachineType) (rs : List Relocation) (offset count : ℕ) (r : Relocation) (alone : MeetsAlone machine rs offset count r) where
  pub alone_among : Among r rs
  unfolding Among
  alone_among = filter_among (meets machine offset count) r rs (subst (Among r) (sym alone) (inl refl))

  pub alone_same : (s : Relocation) → Among s rs → meets machine offset count s ≡ true → s ≡ r
  unfolding Among
  alone_same s m is = elim (subst (Among s) alone (among_filter (meets machine offset count) s rs m is)) [ inl same ↦ same | inr none ↦ absurd none ]

pub meets_bounds : (machine : MachineType) (offset count : ℕ) (r : Relocation) → meets machine offset count r ≡ true → (r.offset < offset + count) × (offset < r.offset + field_width machine r.kind)
meets_bounds machine offset count r is = grind arith

pub meets_from : (machine : MachineType) (offset count : ℕ) (r : Relocation) → r.offset < offset + count → offset < r.offset + field_width machine r.kind → meets machine offset count r ≡ true
meets_from machine offset count r low high = grind arith

-- what is alone in a window is alone in a part of it that it meets
pub alone_within : (machine : MachineType) (rs : List Relocation) (offset count inner size : ℕ) (r : Relocation) → MeetsAlone machine rs offset count r → offset ≤ inner → inner + size ≤ offset + count →
    meets machine inner size r ≡ true → MeetsAlone machine rs inner size r
alone_within machine rs offset count inner size r alone from to here = cc (filter_twice (meets machine offset count) (meets machine inner size) rs (grind (arith, meets_bounds, meets_from)))

-- a relocation that meets a byte
pub meeting : (machine : MachineType) (k : ℕ) (rs : List Relocation) → list_any (meets machine k 1) rs ≡ true → (s : Relocation) × (Among s rs × (meets machine k 1 s ≡ true))
meeting machine k rs is = let by = any_of (meets machine k 1) rs is in (by.0, (by.1, by.2))

-- a relocation that stores an address whole and whose place covers a byte
pub covering_one : (machine : MachineType) (position k : ℕ) (rs : List Relocation) → list_any (covers (position + k)) (places_at machine position rs) ≡ true →
    (s : Relocation) × (Among s rs × ((meets machine k 1 s ≡ true) × ((width : ℕ) × (absolute_width machine s.kind ≡ Some width))))
unfolding Among
covering_one machine position k [] is = cc
covering_one machine position k (s ∷ rs) is = grind (arith, covering_one machine position k rs, is, covered_bounds, narrow, meets_from)

-- Which types store addresses whole.

one_absolute : (b : Bool) (type width : ℕ) → (type == i386_dir32) ≡ b → (if b then Some 4 else None) ≡ Some width → (type ≡ i386_dir32) × (width ≡ 4)
one_absolute b type width here is = grind (arith, eqb-true)

-- the place of such a field is the field
pub whole_width : (machine : MachineType) (type width : ℕ) → absolute_width machine type ≡ Some width → width ≡ field_width machine type
whole_width machine type width is = grind (arith, one_absolute)

-- What fields hold at another base: a field that stores an address whole has the difference added, every other one is
-- as it was.

not_i386 : (type width : ℕ) → absolute_width I386 type ≡ Some width → type ≡ i386_rel32 → ⊥
not_i386 type width is other = let own : type ≡ i386_dir32 = (one_absolute (type == i386_dir32) type width refl is).0 in omega arith

pub holds_moved : (machine : MachineType) (type width from to position target : ℕ) (old new : ℕ → ℕ) → absolute_width machine type ≡ Some width → FieldHolds machine type from position target old new →
    FieldHolds machine type to position target old (λ w. moved_number w from to (new w))
holds_moved machine type width from to position target old new is holds = grind (arith, not_i386)

stored : (machine : MachineType) (type own width : ℕ) → absolute_width machine own ≡ Some width → type ≡ own → absolute_width machine type ≡ None → ⊥
stored machine type own width whole is none = let same : Some width ≡ None = sym whole ∙ subst (λ t. absolute_width machine t ≡ None) is none in cc

pub holds_steady : (machine : MachineType) (type from to position target : ℕ) (old new : ℕ → ℕ) → absolute_width machine type ≡ None → ArePaged machine from to →
    FieldHolds machine type from position target old new → FieldHolds machine type to position target old new
holds_steady machine type from to position target old new none paged holds = grind (arith, stored)

-- What the relocated stubs read.

-- ARM64: `adrp` has the entry's page relative to its own, `ldr` the entry's offset in its page.

pub page_and_offset : (n : ℕ) → page n * 4096 + n % 4096 ≡ n
page_and_offset n = omega arith

pub sum_of_eights : (image_base entry : ℕ) → image_base % 8 ≡ 0 → entry % 8 ≡ 0 → (image_base + entry) % 8 ≡ 0
sum_of_eights image_base entry first second = omega arith

-- The usual calls and loads through a pointer are cases of instructions with an operand, and of pages and offsets.

-- Relocations aside meet no part of the instructions.

aside_misses : (machine : MachineType) (offset count inner size : ℕ) (r : Relocation) → IsAside machine offset count r → offset ≤ inner → inner + size ≤ offset + count → meets machine inner size r ≡ false
aside_misses machine offset count inner size r aside from to = grind arith

aside_none : (machine : MachineType) (offset count inner size : ℕ) (rs : List Relocation) → AllByRecursion (IsAside machine offset count) rs → offset ≤ inner → inner + size ≤ offset + count →
    filter (meets machine inner size) rs ≡ []
aside_none machine offset count inner size [] aside from to = refl
aside_none machine offset count inner size (r ∷ rs) aside from to = rw (aside_misses machine offset count inner size r aside.0 from to) (aside_none machine offset count inner size rs aside.1 from to)

aside_any : (machine : MachineType) (offset count inner size : ℕ) (rs : List Relocation) → AllByRecursion (IsAside machine offset count) rs → offset ≤ inner → inner + size ≤ offset + count →
    list_any (meets machine inner size) rs ≡ false
aside_any machine offset count inner size [] aside from to = refl
aside_any machine offset count inner size (r ∷ rs) aside from to = rw (aside_misses machine offset count inner size r aside.0 from to) (aside_any machine offset count inner size rs aside.1 from to)

module _ (machine : MachineType) (c : LinkedCode) (offset : ℕ) (name bytes : List ℕ) (relocations : ℕ → List Relocation) (has : HasInstructions machine (placed_code c) offset name bytes relocations) where
  abbrev own : List Relocation
  own = map (moved_by offset) (relocations has.index)

  -- what meets a part of the instructions is theirs
  pub own_met : (inner size : ℕ) → offset ≤ inner → inner + size ≤ offset + length bytes → filter (meets machine inner size) c.code.relocations ≡ filter (meets machine inner size) own
  own_met inner size from to = grind (arith, aside_none, filter-append, append-nil)

  pub own_any : (inner size : ℕ) → offset ≤ inner → inner + size ≤ offset + length bytes → list_any (meets machine inner size) own ≡ false → list_any (meets machine inner size) c.code.relocations ≡ false
  own_any inner size from to none = grind (arith, aside_any, list_any-append)

  pub own_names : Names c.from has.index name
  own_names = record { symbol = has.symbol; target = has.target; undefined = has.undefined; named = has.named }

  pub own_code : drop offset c.code.bytes ≡ bytes ++ has.back
  own_code = ap (drop offset) has.instructions ∙ drop_at has.front (bytes ++ has.back) offset has.here

  pub own_inside : offset + length bytes ≤ length c.code.bytes
  own_inside = grind (arith, length-append has.front (bytes ++ has.back), length-append bytes has.back)

pub one_met : (machine : MachineType) (inner size : ℕ) (r : Relocation) → r.offset < inner + size → inner < r.offset + field_width machine r.kind → filter (meets machine inner size) (r ∷ []) ≡ r ∷ []
one_met machine inner size r low high = rw (meets_from machine inner size r low high) refl

-- ARM64's two fields, at the beginning of the instructions and 4 bytes on.

module _ (c : LinkedCode) (offset : ℕ) (name : List ℕ) (a b d e f g h i : ℕ) (rest : List ℕ)
    (has : HasInstructions ARM64 (placed_code c) offset name (a ∷ b ∷ d ∷ e ∷ f ∷ g ∷ h ∷ i ∷ rest)
    (λ index. record { offset = 0; symbol = index; kind = arm64_pagebase_rel21 } ∷ record { offset = 4; symbol = index; kind = arm64_pageoffset_12l } ∷ [])) where
  abbrev rs : ℕ → List Relocation
  rs index = record { offset = 0; symbol = index; kind = arm64_pagebase_rel21 } ∷ record { offset = 4; symbol = index; kind = arm64_pageoffset_12l } ∷ []

  abbrev code : List ℕ
  code = a ∷ b ∷ d ∷ e ∷ f ∷ g ∷ h ∷ i ∷ rest

-- Calls and loads.

-- What instructions with the two fields read, and others behind them, by their rule.
abbrev pub ReadsPair : (ℕ → List ℕ → Option ℕ) → ℕ → ℕ → List ℕ → Type 0
ReadsPair reads page_code load_code behind =
    (address : ℕ) (adrp load : List ℕ) → length adrp ≡ 4 → length load ≡ 4 → with_adrp 0 (number_in adrp) ≡ page_code → with_bits 10 12 0 (number_in load) ≡ load_code →
    reads address (adrp ++ (load ++ behind)) ≡ Some (plus_signed 21 4096 (adrp_immediate (number_in adrp)) (page address * 4096) + ldr_immediate (number_in load))

pub record PairRead (reads : ℕ → List ℕ → Option ℕ) (image_base : ℕ) (memory : List Range) (address : ℕ) (behind bytes : List ℕ) : Type 0 where
  pub code : List ℕ
  pub there : BytesAt memory address code
  pub whole : length code ≡ 8 + length behind
  pub entry : ℕ
  pub leads : reads (image_base + address) code ≡ Some (image_base + entry)
  pub located : BytesAt memory entry bytes

pub pair_read : (reads : ℕ → List ℕ → Option ℕ) (page_code load_code : ℕ) (behind : List ℕ) → ReadsPair reads page_code load_code behind →
    (image_base : ℕ) (linked : List Placed) (memory : List Range) (address old_adrp old_load : ℕ) (name bytes : List ℕ) → with_adrp 0 old_adrp ≡ page_code → with_bits 10 12 0 old_load ≡ load_code →
    PairArrives image_base linked memory address (address + 4) old_adrp old_load name bytes → BytesAt memory (address + 8) behind → PairRead reads image_base memory address behind bytes
pair_read reads page_code load_code behind rule image_base linked memory address old_adrp old_load name bytes is_adrp is_load x there =
    grind (arith, joined, length-append x.adrp_there.bytes (x.load_there.bytes ++ behind), length-append x.load_there.bytes behind)

-- Pages and offsets by any registers.

pub read_word : (xs : List ℕ) → length xs ≡ 4 → word_at xs 0 ≡ number_in xs
read_word xs four = let f = four_of xs four in subst (λ ys. word_at ys 0 ≡ number_in ys) (sym f.is) refl
