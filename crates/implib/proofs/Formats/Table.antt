-- A writer that takes a table row by row.
use Rattle.std.proofs.Common.{◌≡◌, ℕ, zero, suc, ◌+◌, ◌<◌, ◌≤◌, ◌^◌, List, [], ◌∷◌, ◌++◌, IsSomeAnd, length, map, take, drop, get_or, refl, sym, ap, ◌∙◌, append_assoc, arith, length-append}
use Rattle.std.specs.List.{AllByRecursion}
use Rattle.std.proofs.lemmas.List.{append-nil, drop_all, length-take-le, map-append, take_all, take_more}
use Rattle.std.proofs.lemmas.List.Concat.{flat_map-append}
use Rattle.std.proofs.lemmas.List.Folds.{flat_map-map, length-flat_map-take}
use Rattle.implib.specs.declared.coff.object.Relocation.{Relocation}
use Rattle.implib.specs.declared.coff.table.SectionRow.{SectionRow}
use Rattle.implib.specs.declared.coff.table.SymbolRow.{SymbolRow}
use Rattle.implib.specs.Formats.Object.{ObjectSection, section_numbered}
use Rattle.implib.specs.Views.Table.{CanBeAdded, CanBeHeld, HasRoomForAll, LiesIn, bare_row, section_row, symbol_row, with_relocations}
use Rattle.implib.specs.Formats.Writer.{AddedSymbol, HasRoomFor, WriterState, IsSymbolIndex, all_entries, entries_added, sections_with_relocation}
use Rattle.implib.specs.Views.Writer.{IsSound, IsSoundSection, IsSoundSymbol}

-- the fact at an index of a list
at_index : {X : Type 0} (P : X → Type 0) (xs : List X) (i : ℕ) (d : X) → AllByRecursion P xs → i < length xs → P (get_or xs i d)
at_index P [] i d all within = absurd (omega (arith, within))
at_index P (x ∷ xs) zero d all within = all.0
at_index P (x ∷ xs) (suc i) d all within = at_index P xs i d all.1 (omega (arith, within))

-- the relocations of one section

pub with_no_relocation : (ss : List ObjectSection) (n : ℕ) → with_relocations ss n [] ≡ ss
unfolding with_relocations
with_no_relocation [] n = refl
with_no_relocation (s ∷ ss) zero = refl
with_no_relocation (s ∷ ss) (suc zero) = ap (λ rs. record s { relocations = rs } ∷ ss) (append-nil s.relocations)
with_no_relocation (s ∷ ss) (suc (suc n)) = ap (λ x. s ∷ x) (with_no_relocation ss (suc n))

pub with_relocation_more : (ss : List ObjectSection) (n : ℕ) (rs : List Relocation) (r : Relocation) →
    sections_with_relocation (with_relocations ss n rs) n r ≡ with_relocations ss n (rs ++ r ∷ [])
unfolding with_relocations
with_relocation_more [] n rs r = refl
with_relocation_more (s ∷ ss) zero rs r = refl
with_relocation_more (s ∷ ss) (suc zero) rs r = ap (λ x. record s { relocations = x } ∷ ss) (append_assoc s.relocations rs (r ∷ []))
with_relocation_more (s ∷ ss) (suc (suc n)) rs r = ap (λ x. s ∷ x) (with_relocation_more ss (suc n) rs r)

length_part : {X : Type 0} (xs ys : List X) (i : ℕ) → i < length ys → length (xs ++ take i ys) ≡ length xs + i
length_part xs ys i within = omega (arith, length-append xs (take i ys), length-take-le i ys (omega (arith, within)))

-- the section has room for the next relocation
pub next_has_room : (symbols : List AddedSymbol) (ss : List ObjectSection) (n : ℕ) (rs : List Relocation) (i : ℕ) (d : Relocation) →
    IsSomeAnd (section_numbered ss n) (HasRoomForAll symbols rs) → i < length rs →
    IsSomeAnd (section_numbered (with_relocations ss n (take i rs)) n) (HasRoomFor (get_or rs i d))
unfolding with_relocations
next_has_room symbols ss zero rs i d room within = absurd room
next_has_room symbols [] (suc n) rs i d room within = absurd room
next_has_room symbols (s ∷ ss) (suc zero) rs i d room within = grind (arith, length_part, at_index)
next_has_room symbols (s ∷ ss) (suc (suc n)) rs i d room within = next_has_room symbols ss (suc n) rs i d room within

-- the relocations of all rows

-- the sections, with the relocations of the first rows
abbrev pub relocated_rows : List SectionRow → ℕ → List ObjectSection
relocated_rows rows i = map section_row (take i rows) ++ map bare_row (drop i rows)

-- a row more
pub next_relocated : (rows : List SectionRow) (i n : ℕ) (d : SectionRow) → i < length rows → n ≡ i + 1 →
    with_relocations (relocated_rows rows i) n (get_or rows i d).relocations.now ≡ relocated_rows rows (i + 1)
unfolding with_relocations
next_relocated rows i n d within number = grind (arith, by)
  where
    by : (rows : List SectionRow) (i : ℕ) (d : SectionRow) → i < length rows →
        with_relocations (relocated_rows rows i) (suc i) (get_or rows i d).relocations.now ≡ relocated_rows rows (suc i)
    by [] i d within = absurd (omega (arith, within))
    by (row ∷ rows) zero d within = refl
    by (row ∷ rows) (suc i) d within = ap (λ x. section_row row ∷ x) (by rows i d (omega (arith, within)))

-- the section of the next row is there, and has no relocation yet
pub next_numbered : (P : ObjectSection → Type 0) (rows : List SectionRow) (i n : ℕ) (d : SectionRow) → i < length rows → n ≡ i + 1 → P (bare_row (get_or rows i d)) →
    IsSomeAnd (section_numbered (relocated_rows rows i) n) P
next_numbered P rows i n d within number here = grind (arith, by)
  where
    by : (rows : List SectionRow) (i : ℕ) (d : SectionRow) → i < length rows → P (bare_row (get_or rows i d)) → IsSomeAnd (section_numbered (relocated_rows rows i) (suc i)) P
    by [] i d within here = absurd (omega (arith, within))
    by (row ∷ rows) zero d within here = here
    by (row ∷ rows) (suc i) d within here = by rows i d (omega (arith, within)) here

-- all rows
pub all_relocated : (rows : List SectionRow) (i : ℕ) → length rows ≤ i → relocated_rows rows i ≡ map section_row rows
all_relocated rows i past = grind (arith, take_all, drop_all, append-nil)

-- the relocations of a row lie in its section
pub row_has_room : (symbols : List AddedSymbol) (rows : List SectionRow) (i : ℕ) (d : SectionRow) →
    AllByRecursion (λ s. HasRoomForAll symbols s.relocations (record s { relocations = [] })) (map section_row rows) → i < length rows →
    HasRoomForAll symbols (get_or rows i d).relocations.now (bare_row (get_or rows i d))
row_has_room symbols [] i d all within = absurd (omega (arith, within))
row_has_room symbols (row ∷ rows) zero d all within = all.0
row_has_room symbols (row ∷ rows) (suc i) d all within = row_has_room symbols rows i d all.1 (omega (arith, within))

-- the symbols

-- the next symbol can be added
pub next_can_be_added : (count : ℕ) (rows : List SymbolRow) (i : ℕ) (d : SymbolRow) → AllByRecursion (CanBeAdded count) (map symbol_row rows) → i < length rows →
    CanBeAdded count (symbol_row (get_or rows i d))
next_can_be_added count [] i d all within = absurd (omega (arith, within))
next_can_be_added count (row ∷ rows) zero d all within = all.0
next_can_be_added count (row ∷ rows) (suc i) d all within = next_can_be_added count rows i d all.1 (omega (arith, within))

-- so many records are there with the next symbol at the most
pub next_records : (symbols : List AddedSymbol) (rows : List SymbolRow) (i : ℕ) (d : SymbolRow) → i < length rows →
    length (all_entries (symbols ++ map symbol_row (take i rows))) + length (entries_added (symbol_row (get_or rows i d))) ≤ length (all_entries (symbols ++ map symbol_row rows))
next_records symbols rows i d within =
    omega (
      arith,
      ap length (flat_map-append entries_added symbols (map symbol_row (take i rows))),
      ap length (flat_map-append entries_added symbols (map symbol_row rows)),
      length-append (all_entries symbols) (all_entries (map symbol_row (take i rows))),
      length-append (all_entries symbols) (all_entries (map symbol_row rows)),
      ap length (flat_map-map entries_added symbol_row (take i rows)),
      ap length (flat_map-map entries_added symbol_row rows),
      length-flat_map-take (λ row. entries_added (symbol_row row)) rows i d within,
    )

-- What can be written of a table can be held by a writer, where each relocation lies in its data.

-- the relocations of a section lie in its data
abbrev pub LieWithin : ObjectSection → Type 0
LieWithin s = AllByRecursion (λ r. r.offset + 4 ≤ length s.bytes) s.relocations

each_lies : (symbols : List AddedSymbol) (s : ObjectSection) (rs : List Relocation) → AllByRecursion (λ r. r.offset + 4 ≤ length s.bytes) rs →
    AllByRecursion (λ r. IsSymbolIndex symbols r.symbol) rs → AllByRecursion (LiesIn symbols (record s { relocations = [] })) rs
each_lies symbols s [] within named = tt
each_lies symbols s (r ∷ rs) within named = (record { within = within.0; symbol = named.0 }, each_lies symbols s rs within.1 named.1)

sections_held : (symbols : List AddedSymbol) (ss : List ObjectSection) → AllByRecursion (IsSoundSection symbols) ss → AllByRecursion LieWithin ss →
    AllByRecursion (λ s. HasRoomForAll symbols s.relocations (record s { relocations = [] })) ss
sections_held symbols [] sound within = tt
sections_held symbols (s ∷ ss) sound within = grind (arith, sections_held symbols ss sound.1 within.1, each_lies)

symbols_held : (count : ℕ) (ss : List AddedSymbol) → AllByRecursion (IsSoundSymbol count) ss → AllByRecursion (CanBeAdded count) ss
symbols_held count [] sound = tt
symbols_held count (s ∷ ss) sound = (record { named = sound.0.named; no_nul = sound.0.no_nul; place = sound.0.place }, symbols_held count ss sound.1)

pub CanBeHeld-from_sound : (h : WriterState) (n : ℕ) → IsSound h n → n < 2 ^ 32 → AllByRecursion LieWithin h.sections → CanBeHeld h
CanBeHeld-from_sound h n sound short within = grind (arith, symbols_held, sections_held)
