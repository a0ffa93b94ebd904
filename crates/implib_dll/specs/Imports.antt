-- What an image imports (PE/COFF specification, "The .idata Section": "Import Directory Table",
-- "Import Lookup Table", "Hint/Name Table"), as loaders take it. Counts are found by the entries
-- that end the tables, as far as there are bytes for them.
use Rattle.std.specs.Prelude.{ℕ, zero, suc, ◌+◌, ◌*◌, ◌-◌, ◌/◌, ◌==◌, Bool, ◌&&◌, ◌||◌, not, List}
use Rattle.std.specs.Prelude.{[], length, nat_le, nat_lt, take, Option, None, Some, Ok, Err}
use Rattle.std.specs.Prelude.{if◌then◌else◌}
use Rattle.implib_dll.specs.declared.fault.Cause.TheVariants.{AskOutside, ImportDirectoryOpen}
use Rattle.implib_dll.specs.declared.fault.Cause.TheVariants.{ImportDirectoryOutside}
use Rattle.implib_dll.specs.declared.fault.Cause.TheVariants.{ImportedDllOutside, LookupTableOpen}
use Rattle.implib_dll.specs.declared.fault.Cause.TheVariants.{LookupTableOutside, TextsTooLong}
use Rattle.implib_dll.specs.declared.header.Header.{Header}
use Rattle.implib_dll.specs.declared.section.Layout.{Layout}
use Rattle.implib_dll.specs.Bytes.{u16_at, u32_at}
use Rattle.implib_dll.specs.Exports.{found_or, text_within}
use Rattle.implib_dll.specs.Headers.{header_for}
use Rattle.implib_dll.specs.Outcome.{◌>>=◌, Read, each_from, refusal}
use Rattle.implib_dll.specs.Sections.{Section, located, part_at, sections_in, text_at}

-- What a DLL is asked for: an export by its name, with a hint, or by its ordinal.
pub data Ask : Type 0 where
  ByName : List ℕ → ℕ → Ask
  ByOrdinal : ℕ → Ask

-- A DLL by the name that an image gives it, and what it is asked for.
pub record ImportedDll : Type 0 where
  pub dll : List ℕ
  pub asks : List Ask

-- What an image imports, in the order of its import directory, and for which machine it is.
pub record Imports : Type 0 where
  pub machine : ℕ
  pub dlls : List ImportedDll

-- the first number, of so many from one on, at which a table ends, if there is one
unfoldable pub first_end : (ℕ → Bool) → ℕ → ℕ → Option ℕ
first_end ends number zero = None
first_end ends number (suc left) =
    if ends number then Some number else first_end ends (number + 1) left

-- the size of a thunk: 4 bytes in PE32, and 8 in PE32+
abbrev pub thunk_size : Bool → ℕ
thunk_size is_pe32_plus = if is_pe32_plus then 8 else 4

-- whether the thunk at an offset of a table is zero, and so ends the table
abbrev pub is_null_thunk : Bool → List ℕ → ℕ → Bool
is_null_thunk is_pe32_plus table offset =
    (u32_at table offset == 0) && (not is_pe32_plus || (u32_at table (offset + 4) == 0))

-- how many thunks a table has before the one that ends it
unfoldable pub thunk_count : Bool → List ℕ → Option ℕ
thunk_count is_pe32_plus table =
    first_end (λ number. is_null_thunk is_pe32_plus table (thunk_size is_pe32_plus * number))
    0 (length table / thunk_size is_pe32_plus)

-- whether a thunk asks by an ordinal, which its top bit says
abbrev pub is_by_ordinal : Bool → List ℕ → ℕ → Bool
is_by_ordinal is_pe32_plus table offset =
    nat_le 0x80000000 (u32_at table (offset + thunk_size is_pe32_plus - 4))

-- whether a thunk that asks by a name has an address of 31 bits, and zeros above it
abbrev pub has_address : Bool → List ℕ → ℕ → Bool
has_address is_pe32_plus table offset =
    nat_lt (u32_at table offset) 0x80000000
    && (not is_pe32_plus || (u32_at table (offset + 4) == 0))

-- a name with the hint before it
abbrev pub as_name : ℕ → Read (List ℕ × ℕ) → Read (Ask × ℕ)
as_name hint (Ok (text, room)) = Ok (ByName text hint, room)
as_name hint (Err fault) = Err fault

-- the name at an address, behind the two bytes of its hint; by the offset of its thunk
abbrev pub named_at : List Section → ℕ → ℕ → ℕ → Option (ℕ × List ℕ) → Read (Ask × ℕ)
named_at sections place room rva None = refusal AskOutside place
named_at sections place room rva (Some hint) =
    as_name (u16_at hint.1 0) (text_within AskOutside place room (text_at sections (rva + 2)))

-- what the thunk at an offset of a table asks for, with the table's own offset; and the room that
-- it leaves. Tables and texts may overlap, so those of a file could be longer than the file by any
-- factor: each thunk takes its size of room, and each text its length with its NUL.
unfoldable pub ask_at : List Section → Bool → ℕ × List ℕ → ℕ → ℕ → Read (Ask × ℕ)
ask_at sections is_pe32_plus table offset room =
    if nat_lt room (thunk_size is_pe32_plus) then refusal TextsTooLong (table.0 + offset)
    else if is_by_ordinal is_pe32_plus table.1 offset then Ok
    (ByOrdinal (u16_at table.1 offset), room - thunk_size is_pe32_plus)
    else if has_address is_pe32_plus table.1 offset then named_at sections (table.0 + offset)
    (room - thunk_size is_pe32_plus) (u32_at table.1 offset)
    (part_at sections (u32_at table.1 offset) 2)
    else refusal AskOutside (table.0 + offset)

-- the same of the thunk of a number, from 0
abbrev pub ask_step : List Section → Bool → ℕ × List ℕ → ℕ → ℕ → Read (Ask × ℕ)
ask_step sections is_pe32_plus table number room =
    ask_at sections is_pe32_plus table (thunk_size is_pe32_plus * number) room

-- The address of the table by which a descriptor asks: the import lookup table, or where there is
-- none the import address table, which has the same entries before a loader writes there.
abbrev pub lookup_address : List ℕ → ℕ → ℕ
lookup_address table offset =
    if u32_at table offset == 0 then u32_at table (offset + 16) else u32_at table offset

-- the offset in the descriptor of the address of that table
abbrev pub lookup_field : List ℕ → ℕ → ℕ
lookup_field table offset = if u32_at table offset == 0 then offset + 16 else offset

-- whether the descriptor at an offset ends the import directory table: it has no name, or no import
-- address table
abbrev pub is_null_descriptor : List ℕ → ℕ → Bool
is_null_descriptor table offset =
    (u32_at table (offset + 12) == 0) || (u32_at table (offset + 16) == 0)

-- how many descriptors of 20 bytes an import directory table has before the one that ends it
unfoldable pub descriptor_count : List ℕ → Option ℕ
descriptor_count table =
    first_end (λ number. is_null_descriptor table (20 * number)) 0 (length table / 20)

-- What a lookup table asks a DLL of a name for. Of the table no more is looked at than there is
-- room for.
unfoldable pub asks_in : List Section → Bool → List ℕ → ℕ → ℕ → ℕ × List ℕ
    → Read (ImportedDll × ℕ)
asks_in sections is_pe32_plus dll place room lookups = do
  count ← found_or LookupTableOpen place (thunk_count is_pe32_plus (take room lookups.1))
  asks ← each_from (ask_step sections is_pe32_plus lookups) 0 count room
  Ok (record { dll = dll; asks = asks.0 }, asks.1)

-- what the descriptor at an offset of the import directory table says, with the table's own offset;
-- and the room that it leaves
unfoldable pub dll_at : List Section → Bool → ℕ × List ℕ → ℕ → ℕ → Read (ImportedDll × ℕ)
dll_at sections is_pe32_plus table offset room = do
  name ← text_within ImportedDllOutside (table.0 + (offset + 12)) room
      (text_at sections (u32_at table.1 (offset + 12)))
  lookups ← found_or LookupTableOutside (table.0 + lookup_field table.1 offset)
      (located sections (lookup_address table.1 offset))
  asks_in sections is_pe32_plus name.0 (table.0 + lookup_field table.1 offset) name.1 lookups

-- the same of the descriptor of a number, from 0
abbrev pub dll_step : List Section → Bool → ℕ × List ℕ → ℕ → ℕ → Read (ImportedDll × ℕ)
dll_step sections is_pe32_plus table number room =
    dll_at sections is_pe32_plus table (20 * number) room

-- what the import directory says, if there is one; by the entry of data directory 1
unfoldable pub imports_behind : Header → List Section → ℕ → Read Imports
imports_behind header sections room =
    if header.entry.rva == 0 then Ok (record { machine = header.machine; dlls = [] })
    else (do
      table ← found_or ImportDirectoryOutside header.entry.place
          (located sections header.entry.rva)
      count ← found_or ImportDirectoryOpen header.entry.place (descriptor_count table.1)
      dlls ← each_from (dll_step sections header.is_pe32_plus table) 0 count room
      Ok (record { machine = header.machine; dlls = dlls.0 }))

-- What an image imports, in a file or in memory.
unfoldable pub imports_in : Layout → List ℕ → Read Imports
imports_in layout bytes = do
  header ← header_for 1 bytes
  sections ← sections_in layout bytes header.sections header.section_count
  imports_behind header sections.0 (length bytes)
