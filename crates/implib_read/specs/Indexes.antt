-- The indexes of an archive (PE/COFF specification, "First Linker Member" and "Second Linker
-- Member"; the first is the index of the common archive format too). Counts are believed as far as
-- there are bytes for them.
use Rattle.std.specs.Prelude.{ℕ, zero, suc, ◌+◌, ◌*◌, Bool, true, false, List, [], ◌∷◌, Option}
use Rattle.std.specs.Prelude.{None, Some, drop, take}
use Rattle.std.specs.Int.{from_be_bytes, w32}
use Rattle.std.specs.Option.{option_and_then, option_map}
use Rattle.implib.specs.Formats.Object.{bytes_at, u16_at, u32_at}
use Rattle.implib.specs.Formats.ShortImport.{text_in}

-- an entry: a symbol, and in the first index the offset of the header of its member, in the second
-- and in that of ARM64EC the number of that among the second's offsets, from 1
pub record IndexEntry : Type 0 where
  pub symbol : List ℕ
  pub place : ℕ

-- how many bytes a place has, in the second index or in the first
abbrev pub place_size : Bool → ℕ
place_size true = 2
place_size false = 4

-- the place at the front of bytes, in the second index or in the first
abbrev pub place_in : Bool → List ℕ → ℕ
place_in true places = u16_at places 0
place_in false places = from_be_bytes w32 (take 4 places)

-- `count` entries, with their places one after the other, and so their symbols, each ended by a NUL
unfoldable pub entries_from : Bool → ℕ → List ℕ → List ℕ → Option (List IndexEntry)
entries_from second zero places symbols = Some []
entries_from second (suc count) places symbols = option_and_then
    (λ text. option_map
    (λ entries. record { symbol = text.0; place = place_in second places } ∷ entries)
    (entries_from second count (drop (place_size second) places) text.1))
    (text_in symbols)

-- the entries whose places and then symbols begin at an offset
abbrev pub entries_behind : Bool → ℕ → ℕ → List ℕ → Option (List IndexEntry)
entries_behind second count offset contents = option_and_then
    (λ places. entries_from second count places
    (drop (offset + place_size second * count) contents))
    (bytes_at contents offset (place_size second * count))

-- The entries of the first linker member. For example, `00 00 00 01 00 00 00 48 66 00` leads `f` to
-- 0x48.
unfoldable pub first_index_in : List ℕ → Option (List IndexEntry)
first_index_in contents = option_and_then
    (λ count. entries_behind false (from_be_bytes w32 (take 4 count)) 4 contents)
    (bytes_at contents 0 4)

-- the second linker member: the offsets of headers, in 4 bytes each, and its entries
pub record SecondIndex : Type 0 where
  pub offsets : List ℕ
  pub entries : List IndexEntry

-- the second linker member, from its offsets on
abbrev pub second_index_with : List ℕ → ℕ → List ℕ → Option SecondIndex
second_index_with contents behind offsets = option_and_then
    (λ count. option_map
    (λ entries. record { offsets = offsets; entries = entries })
    (entries_behind true (u32_at count 0) (behind + 4) contents))
    (bytes_at contents behind 4)

-- The second linker member in these bytes.
unfoldable pub second_index_in : List ℕ → Option SecondIndex
second_index_in contents = option_and_then
    (λ members. option_and_then
    (second_index_with contents (4 + 4 * u32_at members 0))
    (bytes_at contents 4 (4 * u32_at members 0)))
    (bytes_at contents 0 4)

-- the offset of a number among the offsets of the second linker member; numbers count from 1
abbrev pub offset_numbered : List ℕ → ℕ → Option ℕ
offset_numbered offsets zero = None
offset_numbered offsets (suc n) =
    option_map (λ offset. u32_at offset 0) (bytes_at offsets (4 * n) 4)

-- The entries of the EC index: symbols of ARM64EC's members, with numbers among the offsets of the
-- second linker member.
-- For example, `01 00 00 00 04 00 23 66 00` gives `#f` the number 4.
unfoldable pub ec_entries_in : List ℕ → Option (List IndexEntry)
ec_entries_in contents =
    option_and_then (λ count. entries_behind true (u32_at count 0) 4 contents)
    (bytes_at contents 0 4)
