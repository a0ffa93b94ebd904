-- The export directory of an image (PE/COFF specification, "The .edata Section (Image Only)"):
-- "Export Directory Table", "Export Address Table", "Export Name Pointer Table", "Export Ordinal
-- Table", "Export Name Table". Counts are believed as far as there are bytes for them.
use Rattle.std.specs.Prelude.{ℕ, ◌+◌, ◌*◌, ◌-◌, ◌==◌, Bool, ◌&&◌, List, [], length, nat_le, nat_lt}
use Rattle.std.specs.Prelude.{Option, None, Some, Ok, Err, if◌then◌else◌}
use Rattle.implib_dll.specs.declared.fault.Cause.{Cause}
use Rattle.implib_dll.specs.declared.fault.Cause.TheVariants.{DirectoryOutside, DllNameOutside}
use Rattle.implib_dll.specs.declared.fault.Cause.TheVariants.{AddressTableOutside, NameTableOutside}
use Rattle.implib_dll.specs.declared.fault.Cause.TheVariants.{OrdinalTableOutside, ForwarderOutside}
use Rattle.implib_dll.specs.declared.fault.Cause.TheVariants.{NameOutside, TextsTooLong}
use Rattle.implib_dll.specs.declared.header.Entry.{Entry}
use Rattle.implib_dll.specs.declared.header.Header.{Header}
use Rattle.implib_dll.specs.declared.section.Layout.{Layout}
use Rattle.implib_dll.specs.declared.section.AddressKind.{AddressKind}
use Rattle.implib_dll.specs.Bytes.{u16_at, u32_at}
use Rattle.implib_dll.specs.Headers.{header_in}
use Rattle.implib_dll.specs.Outcome.{◌>>=◌, Read, each_from, refusal}
use Rattle.implib_dll.specs.Sections.{Section, kind_at, part_at, sections_in, text_at}

-- Where an entry of the export address table leads: nowhere, as its address is 0; to an address,
-- with its kind; or to an export of another DLL, by a text as `NTDLL.RtlAllocateHeap` or
-- `NTDLL.#27`.
pub data Target : Type 0 where
  Empty : Target
  Address : ℕ → AddressKind → Target
  Forwarder : List ℕ → Target

-- An entry of the name pointer table with the one of the ordinal table: a name without its NUL, and
-- an index of the export address table. (The specification also calls the entries of the ordinal
-- table biased by the base; loaders take them as indexes, and linkers write indexes.)
pub record NameEntry : Type 0 where
  pub text : List ℕ
  pub index : ℕ

-- What an image exports. The target at an index has the ordinal `base` + index.
pub record Exports : Type 0 where
  pub machine : ℕ
  pub is_pe32_plus : Bool
  -- the name that the directory gives the DLL
  pub dll : List ℕ
  pub base : ℕ
  pub targets : List Target
  pub names : List NameEntry

-- what was found, or a refusal
abbrev pub found_or : {X : Type 0} → Cause → ℕ → Option X → Read X
found_or cause place None = refusal cause place
found_or cause place (Some x) = Ok x

-- A text for which there is room, and the room that it leaves. Texts may overlap, so those of a
-- file could be longer than the file by any factor: with its NUL each takes room, of which there
-- are as many bytes as in the file.
abbrev pub text_within : Cause → ℕ → ℕ → Option (List ℕ) → Read (List ℕ × ℕ)
text_within cause place room None = refusal cause place
text_within cause place room (Some text) =
    if nat_lt (length text) room then Ok (text, room - (length text + 1))
    else refusal TextsTooLong place

-- whether an address is in the export directory, and so that of a forwarder
abbrev pub is_forwarder : Entry → ℕ → Bool
is_forwarder entry address = nat_le entry.rva address && nat_lt address (entry.rva + entry.size)

-- a forwarder of this text
abbrev pub as_forwarder : Read (List ℕ × ℕ) → Read (Target × ℕ)
as_forwarder (Ok (text, room)) = Ok (Forwarder text, room)
as_forwarder (Err fault) = Err fault

-- the target of an address, which is at an offset of the file; and the room that it leaves
unfoldable pub target_of : List Section → Entry → ℕ → ℕ → ℕ → Read (Target × ℕ)
target_of sections entry address place room =
    if address == 0 then Ok (Empty, room)
    else if is_forwarder entry address then as_forwarder
    (text_within ForwarderOutside place room (text_at sections address))
    else Ok (Address address (kind_at sections address), room)

-- the target of an index of the export address table, which is given with its offset
abbrev pub target_step : List Section → Entry → ℕ × List ℕ → ℕ → ℕ → Read (Target × ℕ)
target_step sections entry table index room =
    target_of sections entry (u32_at table.1 (4 * index)) (table.0 + 4 * index) room

-- a name of this text
abbrev pub as_name : ℕ → Read (List ℕ × ℕ) → Read (NameEntry × ℕ)
as_name index (Ok (text, room)) = Ok (record { text = text; index = index }, room)
as_name index (Err fault) = Err fault

-- the name of a number, from 0, by the name pointer table with its offset and by the ordinal table
abbrev pub name_step : List Section → ℕ × List ℕ → List ℕ → ℕ → ℕ → Read (NameEntry × ℕ)
name_step sections pointers ordinals number room = as_name
    (u16_at ordinals (2 * number))
    (text_within NameOutside (pointers.0 + 4 * number) room
    (text_at sections (u32_at pointers.1 (4 * number))))

-- a table of this size, and its offset; the address of none does not matter
unfoldable pub table_at : List Section → Cause → ℕ → ℕ → ℕ → Read (ℕ × List ℕ)
table_at sections cause place rva size =
    if size == 0 then Ok (0, []) else found_or cause place (part_at sections rva size)

-- what the export directory says, of 40 bytes that are given with their offset; with room for texts
unfoldable pub exports_at : Header → List Section → ℕ → ℕ × List ℕ → Read Exports
exports_at header sections room directory = do
  dll ← found_or DllNameOutside (directory.0 + 12) (text_at sections (u32_at directory.1 12))
  addresses ← table_at sections AddressTableOutside (directory.0 + 28) (u32_at directory.1 28)
      (4 * u32_at directory.1 20)
  pointers ← table_at sections NameTableOutside (directory.0 + 32) (u32_at directory.1 32)
      (4 * u32_at directory.1 24)
  ordinals ← table_at sections OrdinalTableOutside (directory.0 + 36) (u32_at directory.1 36)
      (2 * u32_at directory.1 24)
  targets ← each_from (target_step sections header.entry addresses) 0 (u32_at directory.1 20) room
  names ← each_from (name_step sections pointers ordinals.1) 0 (u32_at directory.1 24) targets.1
  Ok (record {
    machine = header.machine;
    is_pe32_plus = header.is_pe32_plus;
    dll = dll;
    base = u32_at directory.1 16;
    targets = targets.0;
    names = names.0;
  })

-- what the export directory says, if there is one
unfoldable pub exports_behind : Header → List Section → ℕ → Read (Option Exports)
exports_behind header sections room =
    if header.entry.rva == 0 then Ok None
    else (do
      directory ← found_or DirectoryOutside header.entry.place
          (part_at sections header.entry.rva 40)
      exports ← exports_at header sections room directory
      Ok (Some exports))

-- What an image exports, in a file or in memory; none where it has no export directory.
unfoldable pub exports_in : Layout → List ℕ → Read (Option Exports)
exports_in layout bytes = do
  header ← header_in bytes
  sections ← sections_in layout bytes header.sections header.section_count
  exports_behind header sections.0 (length bytes)
