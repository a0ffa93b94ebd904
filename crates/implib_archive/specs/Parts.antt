-- The parts of an archive as bytes: headers, data and padding (the common archive format; the
-- PE/COFF specification, "Archive (Library) File Format").
use Rattle.std.specs.Prelude.{ℕ, ◌+◌, ◌-◌, ◌%◌, List, [], ◌∷◌, ◌++◌, codes, decimal, length}
use Rattle.std.specs.Prelude.{replicate}
use Rattle.std.specs.Int.{w16, w32, to_be_bytes, to_le_bytes}

-- the signature of an archive
unfoldable pub signature : List ℕ
signature = codes "!<arch>\n"

-- a text at the left of a field of some width, filled up with spaces
unfoldable pub field : ℕ → List ℕ → List ℕ
field width text = text ++ replicate (width - length text) 32

-- the texts of a header: name, date, user and group (which are the same), and mode
pub record Label : Type 0 where
  pub name : List ℕ
  pub date : List ℕ
  pub owner : List ℕ
  pub mode : List ℕ

-- a header: the texts, the size of the data in decimal, and the two bytes that end it
unfoldable pub header_bytes : Label → ℕ → List ℕ
header_bytes l size =
    field 16 l.name ++ field 12 l.date ++ field 6 l.owner ++ field 6 l.owner ++ field 8 l.mode
    ++ field 10 (decimal size) ++ (96 ∷ 10 ∷ [])

-- the padding byte after data of an odd size, or nothing
unfoldable pub padding : ℕ → ℕ → List ℕ
padding byte size = replicate (size % 2) byte

-- a part: header, data, and a line end after data of an odd size, which the size in the header does
-- not count
unfoldable pub part_bytes : Label → List ℕ → List ℕ
part_bytes l contents = header_bytes l (length contents) ++ contents ++ padding 10 (length contents)

-- a part whose padding, of this byte, is within its data, so that its size is even
unfoldable pub padded_part_bytes : Label → ℕ → List ℕ → List ℕ
padded_part_bytes l byte contents =
    let data' = contents ++ padding byte (length contents) in header_bytes l (length data') ++ data'

-- the size of a part whose data has this size
abbrev pub part_size : ℕ → ℕ
part_size size = 60 + (size + size % 2)

-- a number in 4 bytes, the high one first
unfoldable pub u32_be : ℕ → List ℕ
u32_be n = to_be_bytes w32 n

-- a number in 4 bytes, the low one first
unfoldable pub u32_le : ℕ → List ℕ
u32_le n = to_le_bytes w32 n

-- a number in 2 bytes, the low one first
unfoldable pub u16_le : ℕ → List ℕ
u16_le n = to_le_bytes w16 n
