-- An image as it lies in memory (PE/COFF specification, "Section Table (Section Headers)":
-- VirtualSize and SizeOfRawData), stated apart from how it is read.
use Rattle.std.specs.Prelude.{◌≡◌, ℕ, zero, suc, ◌+◌, ◌-◌, ◌*◌, ◌<◌, true, false, ◌&&◌, List, []}
use Rattle.std.specs.Prelude.{◌∷◌, ◌++◌, length, nat_lt, slice_get, slice_index, Option, None, Some}
use Rattle.std.specs.Prelude.{Ok, if◌then◌else◌}
use Rattle.std.specs.Int.{w16, w32, from_le_bytes}
use Rattle.std.specs.Ordering.{is_eq, is_gt, is_lt, nat_cmp, ordering_then}
use Rattle.std.specs.declared.cmp.Ordering.{Ordering}
use Rattle.implib_dll.specs.declared.header.Entry.{Entry}
use Rattle.implib_dll.specs.declared.header.Header.{Header}
use Rattle.implib_dll.specs.declared.section.Layout.TheVariants.{File, Image}
use Rattle.implib_dll.specs.Bytes.{bytes_at}
use Rattle.implib_dll.specs.Exports.{Exports, NameEntry, Target, Empty, Address, Forwarder}
use Rattle.implib_dll.specs.Exports.{exports_in, is_forwarder}
use Rattle.implib_dll.specs.Headers.{header_in}
use Rattle.implib_dll.specs.Lookup.{middle, position_of}
use Rattle.implib_dll.specs.Sections.{Section, has_address, kind_at, part_at, sections_in, text_at}

-- the byte of a section at an address: its data, and zeros behind them
abbrev pub byte_in : Section → ℕ → ℕ
byte_in s rva = slice_index s.contents (rva - s.address)

-- The byte at an address, of the section that has the address. Where none has it, it is taken as 0.
unfoldable pub byte_at : List Section → ℕ → ℕ
byte_at [] rva = 0
byte_at (s ∷ rest) rva = if has_address s rva then byte_in s rva else byte_at rest rva

-- whether these bytes are in memory from an address on
abbrev pub AreAt : List Section → ℕ → List ℕ → Type 0
AreAt sections rva bytes =
    (k : ℕ) → k < length bytes → byte_at sections (rva + k) ≡ slice_index bytes k

-- Whether a text is in memory from an address on: its bytes, none of which is NUL, and then a NUL.
pub record IsTextAt (sections : List Section) (rva : ℕ) (text : List ℕ) : Type 0 where
  pub bytes : AreAt sections rva (text ++ 0 ∷ [])
  pub no_nul : (k : ℕ) → k < length text → 0 < slice_index text k

-- What is read of a file is in memory: of each table each byte, and each text.
abbrev pub FileIsInMemory : Type 0
FileIsInMemory = (bytes : List ℕ) (place count end : ℕ) (sections : List Section)
    → sections_in File bytes place count ≡ Ok (sections, end)
    → ((rva size offset : ℕ) (part : List ℕ) → part_at sections rva size ≡ Some (offset, part)
    → AreAt sections rva part)
    × ((rva : ℕ) (text : List ℕ) → text_at sections rva ≡ Some text → IsTextAt sections rva text)

-- What is read of an image in memory at an address is what its bytes have there.
abbrev pub ImageIsRead : Type 0
ImageIsRead = (bytes : List ℕ) (place count end : ℕ) (sections : List Section)
    → sections_in Image bytes place count ≡ Ok (sections, end)
    → (rva size offset : ℕ) (part : List ℕ) → part_at sections rva size ≡ Some (offset, part)
    → (offset ≡ rva) × (bytes_at bytes rva size ≡ Some part)

-- the number in the two bytes of memory from an address on
abbrev pub half_at : List Section → ℕ → ℕ
half_at sections rva = from_le_bytes w16 (byte_at sections rva ∷ byte_at sections (rva + 1) ∷ [])

-- the number in the four bytes of memory from an address on
abbrev pub word_at : List Section → ℕ → ℕ
word_at sections rva = from_le_bytes w32
    (byte_at sections rva ∷ byte_at sections (rva + 1) ∷ byte_at sections (rva + 2)
    ∷ byte_at sections (rva + 3) ∷ [])

-- whether a target is what an address of the export address table leads to: 0 is empty, an address
-- in the directory is that of a forwarder's text, and any other one is itself
abbrev pub IsTargetOf : List Section → Entry → ℕ → Target → Type 0
IsTargetOf sections entry address Empty = address ≡ 0
IsTargetOf sections entry address (Forwarder text) =
    (is_forwarder entry address ≡ true) × IsTextAt sections address text
IsTargetOf sections entry address (Address at kind) =
    (is_forwarder entry address ≡ false) × (at ≡ address) × (kind ≡ kind_at sections address)

-- What an export directory in memory says: by "Export Directory Table" at the address that data
-- directory 0 has.
pub record LiesIn (sections : List Section) (entry : Entry) (e : Exports) : Type 0 where
  pub dll : IsTextAt sections (word_at sections (entry.rva + 12)) e.dll
  pub base : word_at sections (entry.rva + 16) ≡ e.base
  pub target_count : word_at sections (entry.rva + 20) ≡ length e.targets
  pub name_count : word_at sections (entry.rva + 24) ≡ length e.names
  pub targets : (index : ℕ) (target : Target) → slice_get e.targets index ≡ Some target
      → IsTargetOf sections entry
      (word_at sections (word_at sections (entry.rva + 28) + 4 * index)) target
  pub names : (position : ℕ) (name : NameEntry) → slice_get e.names position ≡ Some name
      → IsTextAt sections (word_at sections (word_at sections (entry.rva + 32) + 4 * position))
      name.text
  pub indexes : (position : ℕ) (name : NameEntry) → slice_get e.names position ≡ Some name
      → half_at sections (word_at sections (entry.rva + 36) + 2 * position) ≡ name.index

-- What a file is read to export lies in memory so: in the sections that it has.
abbrev pub ExportsLieInMemory : Type 0
ExportsLieInMemory = (bytes : List ℕ) (e : Exports) → exports_in File bytes ≡ Ok (Some e)
    → (header : Header) × (sections : List Section) × (end : ℕ)
    × (header_in bytes ≡ Ok header)
    × (sections_in File bytes header.sections header.section_count ≡ Ok (sections, end))
    × LiesIn sections header.entry e

-- the text at an address of memory against a name, as C's `strcmp` has it, where the name has no
-- NUL
abbrev pub order_from : List Section → ℕ → List ℕ → Ordering
order_from sections rva [] = nat_cmp (byte_at sections rva) 0
order_from sections rva (byte ∷ rest) =
    ordering_then (nat_cmp (byte_at sections rva) byte) (order_from sections (rva + 1) rest)

-- the name at a position of the name pointer table in memory against a name
abbrev pub order_in : List Section → Entry → List ℕ → ℕ → Ordering
order_in sections entry wanted position =
    order_from sections (word_at sections (word_at sections (entry.rva + 32) + 4 * position)) wanted

-- where a binary search finds a name, by the order of what is at each position
unfoldable pub searched_in : (ℕ → Ordering) → ℕ → ℕ → ℕ → Option ℕ
searched_in order_of zero low high = None
searched_in order_of (suc steps) low high =
    let position = middle low high in
    let order = order_of position in
    let later = searched_in order_of steps (if is_lt order then position + 1 else low)
    (if is_gt order then position else high) in
    if nat_lt low high then (if is_eq order then Some position else later) else None

-- The position at which a loader finds a name in memory: at the hint, if that is a position and the
-- name is there, and else by a binary search over all names.
abbrev pub position_in : List Section → Entry → List ℕ → ℕ → Option ℕ
position_in sections entry wanted hint =
    let count = word_at sections (entry.rva + 24) in
    if nat_lt hint count && is_eq (order_in sections entry wanted hint) then Some hint
    else searched_in (order_in sections entry wanted) count 0 count

-- A lookup in memory finds a name where a lookup in what the file is read to export finds it.
abbrev pub LookupsAreThoseInMemory : Type 0
LookupsAreThoseInMemory =
    (sections : List Section) (entry : Entry) (e : Exports) (wanted : List ℕ) (hint : ℕ)
    → LiesIn sections entry e
    → ((k : ℕ) → k < length wanted → 0 < slice_index wanted k)
    → position_in sections entry wanted hint ≡ position_of e.names wanted hint
