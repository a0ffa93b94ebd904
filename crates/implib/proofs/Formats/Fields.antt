-- The fields of the records of an object, read from the bytes that are laid out for them.
use Rattle.std.proofs.Common.{◌≡◌, ℕ, zero, suc, ◌+◌, ◌≤◌, ◌<◌, ◌^◌, List, [], ◌∷◌, ◌++◌, Some, length, take, drop, refl, ◌∙◌, ap, arith, length-append, nat_eq, false, ne_eqb}
use Rattle.std.specs.List.{AllByRecursion, flat_map}
use Rattle.std.specs.Int.{w16, w32, from_le_bytes}
use Rattle.std.proofs.Math.Seq.{drop-append-add}
use Rattle.std.proofs.lemmas.List.{take_at}
use Rattle.std.proofs.lemmas.Nat.{from_le_bytes-to_le_bytes_2, from_le_bytes-to_le_bytes_4}
use Rattle.implib.specs.declared.coff.object.Relocation.{Relocation}
use Rattle.implib.specs.Formats.Bytes.{u16_bytes, u32_bytes}
use Rattle.implib.specs.Formats.Object.{ObjectSection, data_at, each_at, relocation_at, relocation_of, section_at, section_of, u16_at, u32_at}
use Rattle.implib.specs.Formats.Layout.{FitsRelocation, FitsSection, ObjectLayout, contents, contents_size, header_bytes, pointer_or_zero, records, relocation_bytes, section_header, symbol_table_offset}
use Rattle.implib.proofs.Formats.Located.{LocatedAt, bytes_at-located, each_at-located, located_first, located_second}

-- a field past a front of 8 bytes is that field of the rest

drop-after : (front rest : List ℕ) (offset : ℕ) → length front ≡ 8 → drop (8 + offset) (front ++ rest) ≡ drop offset rest
drop-after front rest offset e = rw (← e) (drop-append-add front rest offset)

pub u16_at-after : (front rest : List ℕ) (offset : ℕ) → length front ≡ 8 → u16_at (front ++ rest) (8 + offset) ≡ u16_at rest offset
unfolding u16_at
u16_at-after front rest offset e = ap (λ t. from_le_bytes w16 (take 2 t)) (drop-after front rest offset e)

pub u32_at-after : (front rest : List ℕ) (offset : ℕ) → length front ≡ 8 → u32_at (front ++ rest) (8 + offset) ≡ u32_at rest offset
unfolding u32_at
u32_at-after front rest offset e = ap (λ t. from_le_bytes w32 (take 4 t)) (drop-after front rest offset e)

-- the file header

pub length-header_bytes : (p : ObjectLayout) → length (header_bytes p) ≡ 20
unfolding header_bytes u16_bytes u32_bytes
length-header_bytes p = refl

pub header-machine : (p : ObjectLayout) → p.machine < 2 ^ 16 → u16_at (header_bytes p) 0 ≡ p.machine
unfolding header_bytes u16_bytes u32_bytes u16_at
header-machine p below = from_le_bytes-to_le_bytes_2 p.machine below

pub header-sections : (p : ObjectLayout) → length p.sections < 2 ^ 16 → u16_at (header_bytes p) 2 ≡ length p.sections
unfolding header_bytes u16_bytes u32_bytes u16_at
header-sections p below = from_le_bytes-to_le_bytes_2 (length p.sections) below

pub header-time : (p : ObjectLayout) → u32_at (header_bytes p) 4 ≡ 0
unfolding header_bytes u16_bytes u32_bytes u32_at
header-time p = refl

pub header-symbol_table_offset : (p : ObjectLayout) → symbol_table_offset p < 2 ^ 32 → u32_at (header_bytes p) 8 ≡ symbol_table_offset p
unfolding header_bytes u16_bytes u32_bytes u32_at
header-symbol_table_offset p below = from_le_bytes-to_le_bytes_4 (symbol_table_offset p) below

pub header-records : (p : ObjectLayout) → records p < 2 ^ 32 → u32_at (header_bytes p) 12 ≡ records p
unfolding header_bytes u16_bytes u32_bytes u32_at
header-records p below = from_le_bytes-to_le_bytes_4 (records p) below

pub header-optional : (p : ObjectLayout) → u16_at (header_bytes p) 16 ≡ 0
unfolding header_bytes u16_bytes u32_bytes u16_at
header-optional p = refl

pub header-characteristics : (p : ObjectLayout) → p.characteristics < 2 ^ 16 → u16_at (header_bytes p) 18 ≡ p.characteristics
unfolding header_bytes u16_bytes u32_bytes u16_at
header-characteristics p below = from_le_bytes-to_le_bytes_2 p.characteristics below

-- a relocation

pub length-relocation_bytes : (r : Relocation) → length (relocation_bytes r) ≡ 10
unfolding relocation_bytes u16_bytes u32_bytes
length-relocation_bytes r = refl

relocation-offset : (r : Relocation) → FitsRelocation r → u32_at (relocation_bytes r) 0 ≡ r.offset
unfolding relocation_bytes u16_bytes u32_bytes u32_at
relocation-offset r fits = from_le_bytes-to_le_bytes_4 r.offset fits.offset

relocation-symbol : (r : Relocation) → FitsRelocation r → u32_at (relocation_bytes r) 4 ≡ r.symbol
unfolding relocation_bytes u16_bytes u32_bytes u32_at
relocation-symbol r fits = from_le_bytes-to_le_bytes_4 r.symbol fits.symbol

relocation-kind : (r : Relocation) → FitsRelocation r → u16_at (relocation_bytes r) 8 ≡ r.kind
unfolding relocation_bytes u16_bytes u32_bytes u16_at
relocation-kind r fits = from_le_bytes-to_le_bytes_2 r.kind fits.kind

relocation_of-bytes : (r : Relocation) → FitsRelocation r → relocation_of (relocation_bytes r) ≡ r
unfolding relocation_of
relocation_of-bytes r fits = rw (relocation-offset r fits, relocation-symbol r fits, relocation-kind r fits) refl

pub relocation_at-located : (bytes : List ℕ) (r : Relocation) (position : ℕ) → FitsRelocation r → LocatedAt bytes position (relocation_bytes r) → relocation_at bytes position ≡ Some r
unfolding relocation_at
relocation_at-located bytes r position fits s =
    rw (bytes_at-located 10 (length-relocation_bytes r) s) (ap Some (relocation_of-bytes r fits))

relocations_read : (bytes : List ℕ) (position : ℕ) (rs : List Relocation) → AllByRecursion FitsRelocation rs → LocatedAt bytes position (flat_map relocation_bytes rs) → each_at (relocation_at bytes) position 10 (length rs) ≡ Some rs
relocations_read bytes position rs all s =
    each_at-located relocation_bytes (relocation_at bytes) 10 bytes FitsRelocation
    (λ r at fits located. relocation_at-located bytes r at fits located)
    (λ r fits. length-relocation_bytes r)
    rs position all s

-- a position of nothing is 0
pub pointer_or_zero-zero : (position : ℕ) → pointer_or_zero 0 position ≡ 0
unfolding pointer_or_zero
pointer_or_zero-zero position = refl

-- a position of something is the position
pub pointer_or_zero-suc : (count position : ℕ) → pointer_or_zero (suc count) position ≡ position
unfolding pointer_or_zero
pointer_or_zero-suc count position = let off : nat_eq (suc count) 0 ≡ false = ne_eqb (suc count) 0 (λ e. absurd (omega (arith, e))) in rw off refl

pub pointer_or_zero-le : (count position : ℕ) → pointer_or_zero count position ≤ position
pointer_or_zero-le zero position = rw pointer_or_zero-zero (omega arith)
pointer_or_zero-le (suc count) position = rw pointer_or_zero-suc (omega arith)

relocations_at_place : (bytes : List ℕ) (position : ℕ) (rs : List Relocation) → AllByRecursion FitsRelocation rs → LocatedAt bytes position (flat_map relocation_bytes rs) → each_at (relocation_at bytes) (pointer_or_zero (length rs) position) 10 (length rs) ≡ Some rs
unfolding each_at
relocations_at_place bytes position [] all s = refl
relocations_at_place bytes position (r ∷ rs) all s = rw pointer_or_zero-suc (relocations_read bytes position (r ∷ rs) all s)

data_at_place : (bytes : List ℕ) (position : ℕ) (xs : List ℕ) → 0 < position → LocatedAt bytes position xs → data_at bytes (pointer_or_zero (length xs) position) (length xs) ≡ Some xs
unfolding data_at
data_at_place bytes position [] above s = rw pointer_or_zero-zero refl
data_at_place bytes position (x ∷ xs) above s =
    let off : nat_eq position 0 ≡ false = ne_eqb position 0 (λ e. absurd (omega (arith, e))) in
    rw (pointer_or_zero-suc, off) (bytes_at-located (length (x ∷ xs)) refl s)

-- a section header

module _ (position : ℕ) (s : ObjectSection) (fits : FitsSection s) (short : position + contents_size s < 2 ^ 32) where
  pub length-section_header : length (section_header position s) ≡ 40
  unfolding section_header u16_bytes u32_bytes
  length-section_header = length-append s.name _ ∙ (rw fits.name refl)

  header-name : take 8 (section_header position s) ≡ s.name
  unfolding section_header
  header-name = take_at s.name _ 8 fits.name

  size_below : length s.bytes < 2 ^ 32
  unfolding contents_size
  size_below = omega arith

  place_below : pointer_or_zero (length s.bytes) position < 2 ^ 32
  unfolding contents_size
  place_below = omega (arith, pointer_or_zero-le (length s.bytes) position)

  relocations_below : pointer_or_zero (length s.relocations) (position + length s.bytes) < 2 ^ 32
  unfolding contents_size
  relocations_below = omega (arith, pointer_or_zero-le (length s.relocations) (position + length s.bytes))

  header-size : u32_at (section_header position s) 16 ≡ length s.bytes
  unfolding section_header u16_bytes u32_bytes u32_at
  header-size = u32_at-after s.name _ 8 fits.name ∙ from_le_bytes-to_le_bytes_4 (length s.bytes) size_below

  header-place : u32_at (section_header position s) 20 ≡ pointer_or_zero (length s.bytes) position
  unfolding section_header u16_bytes u32_bytes u32_at
  header-place = u32_at-after s.name _ 12 fits.name ∙ from_le_bytes-to_le_bytes_4 _ place_below

  header-relocations : u32_at (section_header position s) 24 ≡ pointer_or_zero (length s.relocations) (position + length s.bytes)
  unfolding section_header u16_bytes u32_bytes u32_at
  header-relocations = u32_at-after s.name _ 16 fits.name ∙ from_le_bytes-to_le_bytes_4 _ relocations_below

  header-count : u16_at (section_header position s) 32 ≡ length s.relocations
  unfolding section_header u16_bytes u32_bytes u16_at
  header-count = u16_at-after s.name _ 24 fits.name ∙ from_le_bytes-to_le_bytes_2 _ fits.count

  header-flags : u32_at (section_header position s) 36 ≡ s.flags
  unfolding section_header u16_bytes u32_bytes u32_at
  header-flags = u32_at-after s.name _ 28 fits.name ∙ from_le_bytes-to_le_bytes_4 _ fits.flags

  section_of-header : (bytes : List ℕ) → 0 < position → LocatedAt bytes position (contents s) → section_of bytes (section_header position s) ≡ Some s
  unfolding section_of contents
  section_of-header bytes above located =
      rw (
        header-place,
        header-size,
        header-relocations,
        header-count,
        header-name,
        header-flags,
        data_at_place bytes position s.bytes above (located_first s.bytes (flat_map relocation_bytes s.relocations) located),
        relocations_at_place bytes (position + length s.bytes) s.relocations fits.relocations (located_second s.bytes (flat_map relocation_bytes s.relocations) located),
      )
      refl

  pub section_at-located : (bytes : List ℕ) (header : ℕ) → 0 < position → LocatedAt bytes header (section_header position s) → LocatedAt bytes position (contents s) → section_at bytes header ≡ Some s
  unfolding section_at
  section_at-located bytes header above head located = grind (arith, bytes_at-located, length-section_header, section_of-header)
