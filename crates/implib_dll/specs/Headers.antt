-- The headers of an image (PE/COFF specification, "MS-DOS Stub (Image Only)", "Signature (Image
-- Only)", "COFF File Header", "Optional Header (Image Only)", "Optional Header Data Directories
-- (Image Only)"). Offsets are of the file.
use Rattle.std.specs.Prelude.{ℕ, ◌+◌, ◌*◌, ◌-◌, ◌==◌, Bool, true, false, ◌&&◌, List, length, nat_le}
use Rattle.std.specs.Prelude.{nat_lt, Ok, if◌then◌else◌}
use Rattle.implib_dll.specs.declared.fault.Cause.TheVariants.{NoDosHeader, NoPeSignature}
use Rattle.implib_dll.specs.declared.fault.Cause.TheVariants.{OptionalHeaderCut, UnknownMagic}
use Rattle.implib_dll.specs.declared.fault.Cause.TheVariants.{TooManySections, SectionTableCut}
use Rattle.implib_dll.specs.declared.header.Entry.{Entry}
use Rattle.implib_dll.specs.declared.header.Header.{Header}
use Rattle.implib_dll.specs.Bytes.{u16_at, u32_at}
use Rattle.implib_dll.specs.Outcome.{◌>>=◌, Read, refusal}

-- whether bytes begin with a header of MS-DOS: 64 bytes, of which the first two are `MZ`
abbrev pub is_dos_header : List ℕ → Bool
is_dos_header bytes = nat_le 64 (length bytes) && (u16_at bytes 0 == 0x5A4D)

-- whether there is the signature `PE` with two NULs at an offset, and a COFF header of 20 bytes
-- after it
abbrev pub is_signature : List ℕ → ℕ → Bool
is_signature bytes place = nat_le (place + 24) (length bytes) && (u32_at bytes place == 0x4550)

-- the offset of the signature, which stands at 0x3C
unfoldable pub signature_in : List ℕ → Read ℕ
signature_in bytes =
    if is_dos_header bytes then
    (if is_signature bytes (u32_at bytes 0x3C) then Ok (u32_at bytes 0x3C)
    else refusal NoPeSignature 0x3C)
    else refusal NoDosHeader 0

-- The entry of a data directory, by its number, by the place and the size of the optional header,
-- and by the size of the fields before its data directories, of which the last,
-- NumberOfRvaAndSizes, says how many entries there are. Without this entry there is no such table,
-- as with RVA 0.
unfoldable pub entry_in : ℕ → List ℕ → ℕ → ℕ → ℕ → Read Entry
entry_in number bytes optional size fields =
    if nat_lt size fields then refusal OptionalHeaderCut (optional - 4)
    else if nat_le (u32_at bytes (optional + fields - 4)) number then Ok
    (record { place = optional + fields + 8 * number; rva = 0; size = 0 })
    else if nat_lt size (fields + 8 * number + 8) then refusal OptionalHeaderCut (optional - 4)
    else Ok (record {
      place = optional + fields + 8 * number;
      rva = u32_at bytes (optional + fields + 8 * number);
      size = u32_at bytes (optional + fields + 8 * number + 4);
    })

-- the section table behind the optional header, which the loader of Windows takes up to 96 headers
-- ("Section Table (Section Headers)"); by the offset of the signature, what the optional header
-- says, and where it ends
unfoldable pub header_with : List ℕ → ℕ → Bool → ℕ → Entry → Read Header
header_with bytes place is_pe32_plus end entry =
    if nat_lt 96 (u16_at bytes (place + 6)) then refusal TooManySections (place + 6)
    else if nat_lt (length bytes) (end + 40 * u16_at bytes (place + 6)) then refusal SectionTableCut
    (place + 6)
    else Ok (record {
      machine = u16_at bytes (place + 4);
      is_pe32_plus = is_pe32_plus;
      entry = entry;
      sections = end;
      section_count = u16_at bytes (place + 6);
    })

-- what the headers say, with the entry of a data directory, by the place and the size of the
-- optional header, and by whether it is that of PE32+
abbrev pub header_of : ℕ → List ℕ → ℕ → ℕ → Bool → ℕ → Read Header
header_of number bytes place size is_pe32_plus fields = do
  entry ← entry_in number bytes (place + 24) size fields
  header_with bytes place is_pe32_plus (place + 24 + size) entry

-- The headers behind a signature. The magic number is 0x10B for PE32, with 96 bytes before the data
-- directories, and 0x20B for PE32+, with 112.
unfoldable pub header_at : ℕ → List ℕ → ℕ → ℕ → Read Header
header_at number bytes place size =
    if nat_lt size 2 then refusal OptionalHeaderCut (place + 20)
    else if nat_lt (length bytes) (place + 24 + size) then refusal OptionalHeaderCut (place + 20)
    else if u16_at bytes (place + 24) == 0x10B then header_of number bytes place size false 96
    else if u16_at bytes (place + 24) == 0x20B then header_of number bytes place size true 112
    else refusal UnknownMagic (place + 24)

-- the headers of a file, with the entry of a data directory
unfoldable pub header_for : ℕ → List ℕ → Read Header
header_for number bytes = do
  place ← signature_in bytes
  header_at number bytes place (u16_at bytes (place + 20))

-- the headers of a file, with the entry of data directory 0, the export table
abbrev pub header_in : List ℕ → Read Header
header_in bytes = header_for 0 bytes
