-- The sections of an image (PE/COFF specification, "Section Table (Section Headers)"), and what is
-- at an address. Addresses are relative to the base of the image (RVA).
use Rattle.std.specs.Prelude.{ℕ, ◌+◌, ◌*◌, ◌-◌, ◌/◌, ◌%◌, ◌==◌, Bool, ◌&&◌, List, [], ◌∷◌, length}
use Rattle.std.specs.Prelude.{take, drop, max, nat_le, nat_lt, Option, None, Some, Ok, Err}
use Rattle.std.specs.Prelude.{if◌then◌else◌}
use Rattle.std.specs.Option.{option_and_then}
use Rattle.implib_dll.specs.declared.fault.Cause.TheVariants.{SectionsOverlap, SectionDataCut}
use Rattle.implib_dll.specs.declared.section.Layout.{Layout}
use Rattle.implib_dll.specs.declared.section.Layout.TheVariants.{File, Image}
use Rattle.implib_dll.specs.declared.section.AddressKind.{AddressKind}
use Rattle.implib_dll.specs.declared.section.AddressKind.TheVariants.{Code, Data, Outside}
use Rattle.implib_dll.specs.Bytes.{bytes_at, text_in, u32_at}
use Rattle.implib_dll.specs.Outcome.{Read, each_from, refusal}

-- a section: its address and size in memory, its flags, and the offset of its data in the bytes
-- with the data
pub record Section : Type 0 where
  pub address : ℕ
  pub size : ℕ
  pub flags : ℕ
  pub place : ℕ
  pub contents : List ℕ

-- where the data of a section are: in a file at PointerToRawData, and in an image in memory at the
-- address
abbrev pub contents_place : Layout → List ℕ → ℕ → ℕ
contents_place File bytes place = u32_at bytes (place + 20)
contents_place Image bytes place = u32_at bytes (place + 12)

-- The size of a section in memory: the larger one of VirtualSize and SizeOfRawData. A `.bss` has no
-- raw data; the raw data of other sections are filled up to the alignment of the file.
abbrev pub section_size : List ℕ → ℕ → ℕ
section_size bytes place = max (u32_at bytes (place + 8)) (u32_at bytes (place + 16))

-- how many bytes of data a section has: in a file SizeOfRawData, and in memory all of the section
abbrev pub contents_size : Layout → List ℕ → ℕ → ℕ
contents_size File bytes place = u32_at bytes (place + 16)
contents_size Image bytes place = section_size bytes place

-- the data of a section; of no bytes the place does not matter
unfoldable pub contents_at : List ℕ → ℕ → ℕ → Option (List ℕ)
contents_at bytes place size = if size == 0 then Some [] else bytes_at bytes place size

-- a section with its data
abbrev pub section_with : Layout → List ℕ → ℕ → Option (List ℕ) → Read Section
section_with layout bytes place None = refusal SectionDataCut (place + 20)
section_with layout bytes place (Some contents) = Ok (record {
  address = u32_at bytes (place + 12);
  size = section_size bytes place;
  flags = u32_at bytes (place + 36);
  place = contents_place layout bytes place;
  contents = contents;
})

-- The section whose header is at an offset. It begins at `end` or behind it, where the section
-- before it ends, since sections ascend and are apart.
unfoldable pub section_at : Layout → List ℕ → ℕ → ℕ → Read Section
section_at layout bytes place end =
    if nat_lt (u32_at bytes (place + 12)) end then refusal SectionsOverlap (place + 12)
    else section_with layout bytes place
    (contents_at bytes (contents_place layout bytes place) (contents_size layout bytes place))

-- a section, and where it ends
abbrev pub with_end : Read Section → Read (Section × ℕ)
with_end (Ok s) = Ok (s, s.address + s.size)
with_end (Err fault) = Err fault

-- the section of a number, from 0, and where it ends
abbrev pub section_step : Layout → List ℕ → ℕ → ℕ → ℕ → Read (Section × ℕ)
section_step layout bytes sections number end =
    with_end (section_at layout bytes (sections + 40 * number) end)

-- the sections of an image, by the offset of the section table and how many headers it has, and
-- where the last ends
abbrev pub sections_in : Layout → List ℕ → ℕ → ℕ → Read (List Section × ℕ)
sections_in layout bytes sections count = each_from (section_step layout bytes sections) 0 count 0

-- whether the data of a section have the byte of an address
abbrev pub has_data : Section → ℕ → Bool
has_data s rva = nat_le s.address rva && nat_lt rva (s.address + length s.contents)

-- the data of a section from an address on, and their offset in the bytes
abbrev pub data_from : Section → ℕ → ℕ × List ℕ
data_from s rva = (s.place + (rva - s.address), drop (rva - s.address) s.contents)

-- The bytes from an address on, to the end of the data of its section, and their offset: of the
-- first section that has a byte there.
unfoldable pub located : List Section → ℕ → Option (ℕ × List ℕ)
located [] rva = None
located (s ∷ rest) rva = if has_data s rva then Some (data_from s rva) else located rest rva

-- the first bytes of a part, if it has so many
abbrev pub part_of : ℕ → ℕ × List ℕ → Option (ℕ × List ℕ)
part_of size found = if nat_le size (length found.1) then Some (found.0, take size found.1)
    else None

-- as many bytes at an address, in one section, and their offset
unfoldable pub part_at : List Section → ℕ → ℕ → Option (ℕ × List ℕ)
part_at sections rva size = option_and_then (part_of size) (located sections rva)

-- the text at an address, which ends before a NUL in the same section
unfoldable pub text_at : List Section → ℕ → Option (List ℕ)
text_at sections rva = option_and_then (λ found. text_in found.1) (located sections rva)

-- the kind of an address in a section: code where its flags have IMAGE_SCN_MEM_EXECUTE, 0x20000000
-- ("Section Flags")
abbrev pub kind_in : Section → AddressKind
kind_in s = if s.flags / 0x20000000 % 2 == 1 then Code else Data

-- whether a section has an address in memory
abbrev pub has_address : Section → ℕ → Bool
has_address s rva = nat_le s.address rva && nat_lt rva (s.address + s.size)

-- the kind of an address, by the first section that has it
unfoldable pub kind_at : List Section → ℕ → AddressKind
kind_at [] rva = Outside
kind_at (s ∷ rest) rva = if has_address s rva then kind_in s else kind_at rest rva
