-- The layout of an object (this project's layout, docs/FORMATS.md, "The layout of an object"; the
-- fields are those of the PE/COFF specification): header, section headers, the contents of each
-- section, symbol records, string table, with nothing between them.
use Rattle.std.specs.Prelude.{◌≡◌, ℕ, ◌+◌, ◌-◌, ◌*◌, ◌<◌, ◌≤◌, ◌^◌, false, List, [], ◌∷◌, ◌++◌}
use Rattle.std.specs.Prelude.{Option, None, Some, length, replicate, slice_index, slice_index_or}
use Rattle.std.specs.Prelude.{nat_eq, if◌then◌else◌}
use Rattle.std.specs.List.{AllByRecursion, flat_map, sum_by}
use Rattle.implib.specs.declared.coff.object.Relocation.{Relocation}
use Rattle.implib.specs.Ascii.{holds}
use Rattle.implib.specs.Formats.Bytes.{u16_bytes, u32_bytes}
use Rattle.implib.specs.Formats.Object.{Entry, ASymbol, Auxiliary, Object, ObjectSection}

-- the location of a symbol's name: in its record, or in the string table, as the string of this
-- index, from 0
pub data SymbolName : Type 0 where
  InRecord : List ℕ → SymbolName
  InStringTable : ℕ → SymbolName

-- a symbol to be written
pub record LayoutSymbol : Type 0 where
  pub name : SymbolName
  pub value : ℕ
  pub section : ℕ
  pub class : ℕ
  pub aux : Option (List ℕ)

-- a symbol of value 0 without an auxiliary record
abbrev pub symbol : SymbolName → ℕ → ℕ → LayoutSymbol
symbol name section class =
    record { name = name; value = 0; section = section; class = class; aux = None }

-- an object to be written; the strings are those of the string table, in order
pub record ObjectLayout : Type 0 where
  pub machine : ℕ
  pub characteristics : ℕ
  pub sections : List ObjectSection
  pub symbols : List LayoutSymbol
  pub strings : List (List ℕ)

-- the size in bytes of a section's data and relocations
unfoldable pub contents_size : ObjectSection → ℕ
contents_size s = length s.bytes + 10 * length s.relocations

-- the number of auxiliary records of a symbol: none or one
unfoldable pub auxiliary_count : Option (List ℕ) → ℕ
auxiliary_count None = 0
auxiliary_count (Some aux) = 1

-- the number of symbol records of a symbol: its own, and the auxiliary one
unfoldable pub record_count : LayoutSymbol → ℕ
record_count s = 1 + auxiliary_count s.aux

-- the size in bytes of a string, with its NUL
unfoldable pub string_size : List ℕ → ℕ
string_size text = length text + 1

-- The size in bytes of the string table, its size field counted. For example, 4 without strings,
-- and 14 with `abcdefghi`.
unfoldable pub strings_size : List (List ℕ) → ℕ
strings_size strings = 4 + sum_by string_size strings

-- the offset of the contents of the sections
unfoldable pub contents_offset : ObjectLayout → ℕ
contents_offset p = 20 + 40 * length p.sections

-- the offset of the symbol table
unfoldable pub symbol_table_offset : ObjectLayout → ℕ
symbol_table_offset p = contents_offset p + sum_by contents_size p.sections

-- the number of symbol records of an object, auxiliary ones counted
unfoldable pub records : ObjectLayout → ℕ
records p = sum_by record_count p.symbols

-- The size in bytes of an encoded object. For example, an object without sections and with two
-- undefined symbols, of 8 and of 9 bytes, has 70 bytes.
unfoldable pub encoded_size : ObjectLayout → ℕ
encoded_size p = symbol_table_offset p + 18 * records p + strings_size p.strings

-- the file header of an object, 20 bytes ("COFF File Header")
unfoldable pub header_bytes : ObjectLayout → List ℕ
header_bytes p =
    u16_bytes p.machine  -- 0
    ++ (u16_bytes (length p.sections)  -- 2
    ++ (u32_bytes 0  -- 4: time
    ++ (u32_bytes (symbol_table_offset p)  -- 8
    ++ (u32_bytes (records p)  -- 12
    ++ (u16_bytes 0  -- 16: size of the optional header
    ++ u16_bytes p.characteristics)))))  -- 18

-- an offset, or 0 where there is nothing at it
unfoldable pub pointer_or_zero : ℕ → ℕ → ℕ
pointer_or_zero count offset = if nat_eq count 0 then 0 else offset

-- the header of a section whose contents begin at an offset, 40 bytes ("Section Table")
unfoldable pub section_header : ℕ → ObjectSection → List ℕ
section_header offset s =
    s.name  -- 0
    ++ (u32_bytes 0  -- 8: virtual size
    ++ (u32_bytes 0  -- 12: virtual address
    ++ (u32_bytes (length s.bytes)  -- 16
    ++ (u32_bytes (pointer_or_zero (length s.bytes) offset)  -- 20
    ++ (u32_bytes (pointer_or_zero (length s.relocations) (offset + length s.bytes))  -- 24
    ++ (u32_bytes 0  -- 28: line numbers
    ++ (u16_bytes (length s.relocations)  -- 32
    ++ (u16_bytes 0  -- 34: number of line numbers
    ++ u32_bytes s.flags))))))))  -- 36

-- the headers of sections whose contents follow one another from an offset on
unfoldable pub section_headers : ℕ → List ObjectSection → List ℕ
section_headers offset [] = []
section_headers offset (s ∷ rest) =
    section_header offset s ++ section_headers (offset + contents_size s) rest

-- a relocation, 10 bytes ("COFF Relocations")
unfoldable pub relocation_bytes : Relocation → List ℕ
relocation_bytes r = u32_bytes r.offset ++ (u32_bytes r.symbol ++ u16_bytes r.kind)

-- a section's data, then its relocations
unfoldable pub contents : ObjectSection → List ℕ
contents s = s.bytes ++ flat_map relocation_bytes s.relocations

-- the offsets of strings one after another from an offset on
unfoldable pub offsets_from : ℕ → List (List ℕ) → List ℕ
offsets_from offset [] = []
offsets_from offset (text ∷ rest) = offset ∷ offsets_from (offset + string_size text) rest

-- The offset of each string in the string table, whose first 4 bytes are its size. For example, 4,
-- 28 and 53 for strings of 23, 24 and 20 bytes.
unfoldable pub string_offsets : List (List ℕ) → List ℕ
string_offsets strings = offsets_from 4 strings

-- The 8 bytes of a symbol's name, by the offsets of the strings. For example, `abcdefgh` is its own
-- field, and the string at the offset 4 is `00 00 00 00 04 00 00 00`.
unfoldable pub name_field : List ℕ → SymbolName → List ℕ
name_field offsets (InRecord text) = text ++ replicate (8 - length text) 0
name_field offsets (InStringTable index) = u32_bytes 0 ++ u32_bytes (slice_index offsets index)

-- the auxiliary record that follows a symbol, if any
unfoldable pub auxiliary_bytes : Option (List ℕ) → List ℕ
auxiliary_bytes None = []
auxiliary_bytes (Some aux) = aux

-- a symbol's record, 18 bytes ("COFF Symbol Table"), and the auxiliary one
unfoldable pub symbol_bytes : List ℕ → LayoutSymbol → List ℕ
symbol_bytes offsets s =
    name_field offsets s.name  -- 0
    ++ (u32_bytes s.value  -- 8
    ++ (u16_bytes s.section  -- 12
    ++ (u16_bytes 0  -- 14: type
    -- 16: storage class, 17: number of auxiliary records
    ++ (s.class ∷ auxiliary_count s.aux ∷ auxiliary_bytes s.aux))))

-- a string, ended by NUL
unfoldable pub string_bytes_of : List ℕ → List ℕ
string_bytes_of text = text ++ 0 ∷ []

-- the string table: its size, then the strings ("COFF String Table")
unfoldable pub string_table : List (List ℕ) → List ℕ
string_table strings = u32_bytes (strings_size strings) ++ flat_map string_bytes_of strings

-- the bytes of an object
unfoldable pub encoded : ObjectLayout → List ℕ
encoded p =
    header_bytes p
    ++ (section_headers (contents_offset p) p.sections
    ++ (flat_map contents p.sections
    ++ (flat_map (symbol_bytes (string_offsets p.strings)) p.symbols
    ++ string_table p.strings)))

-- the text that a symbol's name is
unfoldable pub name_text : List (List ℕ) → SymbolName → List ℕ
name_text strings (InRecord text) = text
name_text strings (InStringTable index) = slice_index_or strings index []

-- the entries of the symbol table that a symbol makes
unfoldable pub entries_of : List (List ℕ) → LayoutSymbol → List Entry
entries_of strings s =
    ASymbol (record {
      name = name_text strings s.name;
      value = s.value;
      section = s.section;
      kind = 0;
      class = s.class;
    }) ∷ elim s.aux [ None ↦ [] | Some aux ↦ Auxiliary aux ∷ [] ]

-- the object that a layout describes
unfoldable pub object_of : ObjectLayout → Object
object_of p = record {
  machine = p.machine;
  time = 0;
  optional_header_size = 0;
  characteristics = p.characteristics;
  sections = p.sections;
  entries = flat_map (entries_of p.strings) p.symbols;
}

-- no byte is NUL
abbrev pub HasNoNul : List ℕ → Type 0
HasNoNul text = holds 0 text ≡ false

-- each field of a relocation has its range
pub record FitsRelocation (r : Relocation) : Type 0 where
  pub offset : r.offset < 2 ^ 32
  pub symbol : r.symbol < 2 ^ 32
  pub kind : r.kind < 2 ^ 16

-- each field of a section's header has its range, sizes and offsets aside
pub record FitsSection (s : ObjectSection) : Type 0 where
  pub name : length s.name ≡ 8
  pub flags : s.flags < 2 ^ 32
  pub count : length s.relocations < 2 ^ 16
  pub relocations : AllByRecursion FitsRelocation s.relocations

-- a name in its record is a text of 1 to 8 bytes, and one in the string table is one of the strings
abbrev pub FitsName : List (List ℕ) → SymbolName → Type 0
FitsName strings (InRecord text) = (0 < length text) × (length text ≤ 8) × HasNoNul text
FitsName strings (InStringTable index) = index < length strings

-- an auxiliary record has 18 bytes
abbrev pub FitsAuxiliary : Option (List ℕ) → Type 0
FitsAuxiliary None = Unit {0}
FitsAuxiliary (Some aux) = length aux ≡ 18

-- each field of a symbol's record has its range
pub record FitsSymbol (strings : List (List ℕ)) (s : LayoutSymbol) : Type 0 where
  pub name : FitsName strings s.name
  pub value : s.value < 2 ^ 32
  pub section : s.section < 2 ^ 16
  pub aux : FitsAuxiliary s.aux

-- the fields of a layout have their ranges, and its names are texts without NUL
pub record Fits (p : ObjectLayout) : Type 0 where
  pub machine : p.machine < 2 ^ 16
  pub characteristics : p.characteristics < 2 ^ 16
  pub count : length p.sections < 2 ^ 16
  pub sections : AllByRecursion FitsSection p.sections
  pub symbols : AllByRecursion (FitsSymbol p.strings) p.symbols
  pub strings : AllByRecursion HasNoNul p.strings
