-- A file of a linked program, as a loader takes it that knows nothing else: its headers say where
-- its sections are in the file and in memory, its base, and by data directories where its import
-- directory and its address tables are (PE/COFF specification, "Optional Header (Image Only)",
-- "Section Table (Section Headers)"). Addresses count from the base.
use Rattle.std.specs.Prelude.{◌≡◌, ℕ, ◌+◌, ◌-◌, ◌*◌, ◌^◌, ◌==◌, ◌&&◌, nat_le, nat_lt, List, []}
use Rattle.std.specs.Prelude.{◌++◌, length, map, Option, Some, None, Ok, if◌then◌else◌}
use Rattle.implib.specs.Import.{Ask}
use Rattle.implib.specs.Link.Image.{Range}
use Rattle.implib.specs.Members.ImportTables.{zeros}
use Rattle.implib_dll.specs.Bytes.{u32_at}
use Rattle.implib_dll.specs.Headers.{header_in}
use Rattle.implib_dll.specs.Outcome.{◌>>=◌, Read}
use Rattle.implib_dll.specs.Sections.{Section, sections_in}
use Rattle.implib_dll.specs.declared.header.Header.{Header}
use Rattle.implib_dll.specs.declared.section.Layout.TheVariants.{File}
use Rattle.implib_link.specs.Gnu.Writing.{ReadsAndWrites}

-- a data directory: an address and a size
pub record DataDirectory : Type 0 where
  pub address : ℕ
  pub size : ℕ

-- The data directory of a number, from 0, if the optional header has it ("Optional Header Data
-- Directories (Image Only)"): there are NumberOfRvaAndSizes, a number right in front of the first
-- one, each of 8 bytes, and they end before the section table begins.
abbrev pub data_directory : List ℕ → Header → ℕ → Option DataDirectory
data_directory bytes header number =
    if nat_lt number (u32_at bytes (header.entry.place - 4))
    && nat_le (header.entry.place + 8 * number + 8) header.sections
    then Some (record {
      address = u32_at bytes (header.entry.place + 8 * number);
      size = u32_at bytes (header.entry.place + 8 * number + 4);
    })
    else None

-- ImageBase ("Optional Header Windows-Specific Fields (Image Only)"): of PE32+ 8 bytes at 24, 88 in
-- front of the data directories; of PE32 4 bytes at 28, 68 in front of them
abbrev pub preferred_base : List ℕ → Header → ℕ
preferred_base bytes header =
    if header.is_pe32_plus
    then u32_at bytes (header.entry.place - 88) + 2 ^ 32 * u32_at bytes (header.entry.place - 84)
    else u32_at bytes (header.entry.place - 68)

-- a section in memory: its data, and zeros up to its size
abbrev pub mapped_section : Section → Range
mapped_section s =
    record { start = s.address; bytes = s.contents ++ zeros (s.size - length s.contents) }

-- A file as a loader maps it: its machine, the width of its thunks, which is 8 of PE32+ ("Import
-- Lookup Table"), the base that it was linked for, its sections in memory, and its data directories
-- 1 and 12, the import table and the import address table.
pub record MappedFile : Type 0 where
  pub machine : ℕ
  pub width : ℕ
  pub base : ℕ
  pub image : List Range
  pub imports : Option DataDirectory
  pub addresses : Option DataDirectory

unfoldable pub mapped_file : List ℕ → Read MappedFile
mapped_file bytes = do
  header ← header_in bytes
  sections ← sections_in File bytes header.sections header.section_count
  Ok (record {
    machine = header.machine;
    width = if header.is_pe32_plus then 8 else 4;
    base = preferred_base bytes header;
    image = map mapped_section sections.0;
    imports = data_directory bytes header 1;
    addresses = data_directory bytes header 12;
  })

-- the address in a data directory: none, if it is not there or its address is 0
abbrev pub address_in : Option DataDirectory → Option ℕ
address_in None = None
address_in (Some d) = if d.address == 0 then None else Some d.address

-- what a loader writes that finds an import directory at an address, or has none
abbrev pub WritesFrom : MappedFile → (List ℕ → Ask → List ℕ) → Option ℕ → ℕ → List Range → Type 0
WritesFrom file gives None n written = (n ≡ 0) × (written ≡ [])
WritesFrom file gives (Some address) n written =
    ReadsAndWrites file.image file.width gives n address written

-- What a loader writes that begins with a file, as Windows does: it maps the sections, and walks
-- the import directory from the address in data directory 1 on, of so many descriptors. The
-- directory's size does not matter to it.
abbrev pub LoadsFile : MappedFile → (List ℕ → Ask → List ℕ) → ℕ → List Range → Type 0
LoadsFile file gives n written = WritesFrom file gives (address_in file.imports) n written
