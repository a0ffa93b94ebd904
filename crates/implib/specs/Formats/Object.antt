-- How an object is read (PE/COFF specification, "COFF File Header", "Section Table", "COFF
-- Relocations", "COFF Symbol Table", "COFF String Table"): the offsets and counts in its bytes
-- are followed, and there is no object where one of them leads out.
use Rattle.std.specs.Prelude.{ℕ, zero, suc, ◌+◌, ◌*◌, List, [], ◌∷◌, Option, None, Some, length}
use Rattle.std.specs.Prelude.{take, drop, nat_le, nat_eq, slice_get, slice_index, if◌then◌else◌}
use Rattle.std.specs.Int.{w16, w32, from_le_bytes}
use Rattle.std.specs.Option.{option_and_then, option_map}
use Rattle.implib.specs.declared.coff.object.Relocation.{Relocation}

-- a section: its name filled with NUL, its flags, data and relocations
pub record ObjectSection : Type 0 where
  pub name : List ℕ
  pub flags : ℕ
  pub bytes : List ℕ
  pub relocations : List Relocation

-- a symbol; a section counts from 1, 0 is undefined, 0xFFFF absolute, 0xFFFE debug
pub record ObjectSymbol : Type 0 where
  pub name : List ℕ
  pub value : ℕ
  pub section : ℕ
  pub kind : ℕ
  pub class : ℕ

-- an entry of the symbol table: a symbol, or an auxiliary record of the symbol before it
pub data Entry : Type 0 where
  ASymbol : ObjectSymbol → Entry
  Auxiliary : List ℕ → Entry

-- an object; the index of a symbol is that of its entry in the list, from 0
pub record Object : Type 0 where
  pub machine : ℕ
  pub time : ℕ
  pub optional_header_size : ℕ
  pub characteristics : ℕ
  pub sections : List ObjectSection
  pub entries : List Entry

-- What a list has for the section of a number, its section or its address, say. Section numbers
-- count from 1 ("Section Number Values"): the section 2 of two is the last one.
abbrev pub section_numbered : {X : Type 0} → List X → ℕ → Option X
section_numbered items zero = None
section_numbered items (suc index) = slice_get items index

-- `count` bytes from an offset on, if they are there
unfoldable pub bytes_at : List ℕ → ℕ → ℕ → Option (List ℕ)
bytes_at bytes offset count =
    if nat_le (offset + count) (length bytes) then Some (take count (drop offset bytes)) else None

-- The number in the two bytes of a record from an offset on. For example, `02 01` is 258.
unfoldable pub u16_at : List ℕ → ℕ → ℕ
u16_at bytes offset = from_le_bytes w16 (take 2 (drop offset bytes))

-- the number in the four bytes of a record from an offset on
unfoldable pub u32_at : List ℕ → ℕ → ℕ
u32_at bytes offset = from_le_bytes w32 (take 4 (drop offset bytes))

-- what is read at an offset and at each further one a width apart, `count` times
unfoldable pub each_at : {X : Type 0} → (ℕ → Option X) → ℕ → ℕ → ℕ → Option (List X)
each_at read offset width zero = Some []
each_at read offset width (suc count) = option_and_then
    (λ x. option_map (λ xs. x ∷ xs) (each_at read (offset + width) width count))
    (read offset)

-- The bytes before the first NUL, or all where there is none: a name of 8 bytes fills its field.
-- (The texts of a string table and of a `.idata` section have to be ended: `before_nul`. Those of a
-- short import are read one after the other: `ShortImport.text_in`.) For example, `.text` and three
-- NULs are `.text`.
unfoldable pub up_to_nul : List ℕ → List ℕ
up_to_nul [] = []
up_to_nul (zero ∷ rest) = []
up_to_nul (suc n ∷ rest) = suc n ∷ up_to_nul rest

-- the bytes before the first NUL, if there is one
unfoldable pub before_nul : List ℕ → Option (List ℕ)
before_nul [] = None
before_nul (zero ∷ rest) = Some []
before_nul (suc n ∷ rest) = option_map (λ text. suc n ∷ text) (before_nul rest)

-- a relocation's record of 10 bytes
unfoldable pub relocation_of : List ℕ → Relocation
relocation_of record_bytes = record {
  offset = u32_at record_bytes 0;
  symbol = u32_at record_bytes 4;
  kind = u16_at record_bytes 8;
}

-- the relocation at an offset
unfoldable pub relocation_at : List ℕ → ℕ → Option Relocation
relocation_at bytes offset = option_map relocation_of (bytes_at bytes offset 10)

-- a section's data: none is in the file where its offset is 0
unfoldable pub data_at : List ℕ → ℕ → ℕ → Option (List ℕ)
data_at bytes offset size = if nat_eq offset 0 then Some [] else bytes_at bytes offset size

-- the section of a header of 40 bytes, with its data and its relocations
abbrev pub section_with : List ℕ → List ℕ → List Relocation → ObjectSection
section_with header section_data relocations = record {
  name = take 8 header;
  flags = u32_at header 36;
  bytes = section_data;
  relocations = relocations;
}

-- the section that a header of 40 bytes describes
unfoldable pub section_of : List ℕ → List ℕ → Option ObjectSection
section_of bytes header =
    let section_data = data_at bytes (u32_at header 20) (u32_at header 16) in
    let relocations = each_at (relocation_at bytes) (u32_at header 24) 10 (u16_at header 32) in
    option_and_then (λ d. option_map (λ rs. section_with header d rs) relocations) section_data

-- the section whose header is at an offset
unfoldable pub section_at : List ℕ → ℕ → Option ObjectSection
section_at bytes offset = option_and_then (section_of bytes) (bytes_at bytes offset 40)

-- The name in the 8 bytes of a field: after four zero bytes an offset into the string table,
-- otherwise the bytes up to the first NUL. For example, `00 00 00 00 04 00 00 00` is the first text
-- of the string table.
unfoldable pub name_of : List ℕ → List ℕ → Option (List ℕ)
name_of strings (zero ∷ zero ∷ zero ∷ zero ∷ offset) = before_nul (drop (u32_at offset 0) strings)
name_of strings field = Some (up_to_nul field)

-- the symbol of a record of 18 bytes, with its name
abbrev pub symbol_with : List ℕ → List ℕ → ObjectSymbol
symbol_with record_bytes name = record {
  name = name;
  value = u32_at record_bytes 8;
  section = u16_at record_bytes 12;
  kind = u16_at record_bytes 14;
  class = slice_index record_bytes 16;
}

-- the symbol in a record of 18 bytes
unfoldable pub symbol_of : List ℕ → List ℕ → Option ObjectSymbol
symbol_of strings record_bytes =
    option_map (λ name. symbol_with record_bytes name) (name_of strings (take 8 record_bytes))

-- `count` entries from an offset on, the first few of them auxiliary records
unfoldable pub entries_at : List ℕ → List ℕ → ℕ → ℕ → ℕ → Option (List Entry)
entries_at bytes strings offset zero zero = Some []
entries_at bytes strings offset (suc auxiliary) zero = None
entries_at bytes strings offset (suc auxiliary) (suc count) = option_and_then
    (λ record_bytes. option_map
    (λ entries. Auxiliary record_bytes ∷ entries)
    (entries_at bytes strings (offset + 18) auxiliary count))
    (bytes_at bytes offset 18)
entries_at bytes strings offset zero (suc count) = option_and_then
    (λ record_bytes. option_and_then
    (λ symbol. option_map
    (λ entries. ASymbol symbol ∷ entries)
    (entries_at bytes strings (offset + 18) (slice_index record_bytes 17) count))
    (symbol_of strings record_bytes))
    (bytes_at bytes offset 18)

-- the string table at an offset: its size counts the four bytes of the size
unfoldable pub strings_at : List ℕ → ℕ → Option (List ℕ)
strings_at bytes offset = option_and_then
    (λ size. bytes_at bytes offset (u32_at size 0))
    (bytes_at bytes offset 4)

-- the object of a header of 20 bytes, with its sections and the entries of its symbol table
abbrev pub object_with : List ℕ → List ObjectSection → List Entry → Object
object_with header sections entries = record {
  machine = u16_at header 0;
  time = u32_at header 4;
  optional_header_size = u16_at header 16;
  characteristics = u16_at header 18;
  sections = sections;
  entries = entries;
}

-- the object that a header of 20 bytes describes
unfoldable pub object_of_header : List ℕ → List ℕ → Option Object
object_of_header bytes header =
    let symbol_table_offset : ℕ = u32_at header 8 in
    let records : ℕ = u32_at header 12 in
    let strings = strings_at bytes (symbol_table_offset + 18 * records) in
    let sections = each_at (section_at bytes) (20 + u16_at header 16) 40 (u16_at header 2) in
    let entries =
    option_and_then (λ table. entries_at bytes table symbol_table_offset 0 records) strings in
    option_and_then (λ ss. option_map (λ es. object_with header ss es) entries) sections

-- The object in a file's bytes. For example, the 70 bytes of `two_names_bytes` (Worked/Layouts) are
-- an object without sections whose two symbols are `abcdefgh` and `abcdefghi`.
unfoldable pub object_in : List ℕ → Option Object
object_in bytes = option_and_then (object_of_header bytes) (bytes_at bytes 0 20)
