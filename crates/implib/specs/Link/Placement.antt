-- Placement: the addresses of the sections of linked objects (this project's model of what linkers
-- do, docs/FORMATS.md, "Placement").
use Rattle.std.specs.Prelude.{ℕ, ◌+◌, ◌-◌, ◌/◌, ◌%◌, ◌^◌, Bool, ◌==◌, List, [], ◌∷◌, length}
use Rattle.std.specs.Prelude.{bytes_eq, codes, Option, Some, None, if◌then◌else◌}
use Rattle.implib.specs.Formats.Object.{Object, ObjectSection}

-- The groups of sections that import tables are made of (PE/COFF specification, "The .idata
-- Section"): descriptors in `.idata$2`, what ends them in `.idata$3`, lookup tables in `.idata$4`,
-- address tables in `.idata$5`, hints and names in `.idata$6`, names of DLLs in `.idata$7`.
pub data Group : Type 0 where
  Descriptors : Group
  DirectoryEnds : Group
  Lookups : Group
  Addresses : Group
  HintNames : Group
  DllNames : Group

-- all groups
abbrev pub groups : List Group
groups = Descriptors ∷ DirectoryEnds ∷ Lookups ∷ Addresses ∷ HintNames ∷ DllNames ∷ []

-- the number after the `$`
abbrev pub group_number : Group → ℕ
group_number Descriptors = 2
group_number DirectoryEnds = 3
group_number Lookups = 4
group_number Addresses = 5
group_number HintNames = 6
group_number DllNames = 7

-- whether two groups are one
abbrev pub same_group : Group → Group → Bool
same_group first second = group_number first == group_number second

-- the group of the section of a name, if it is of one
abbrev pub group_named : List ℕ → Option Group
group_named name =
    if bytes_eq name (codes ".idata$2") then Some Descriptors
    else if bytes_eq name (codes ".idata$3") then Some DirectoryEnds
    else if bytes_eq name (codes ".idata$4") then Some Lookups
    else if bytes_eq name (codes ".idata$5") then Some Addresses
    else if bytes_eq name (codes ".idata$6") then Some HintNames
    else if bytes_eq name (codes ".idata$7") then Some DllNames
    else None

-- an address for each group
pub record Bases : Type 0 where
  pub descriptors : ℕ
  pub directory_ends : ℕ
  pub lookups : ℕ
  pub addresses : ℕ
  pub hint_names : ℕ
  pub dll_names : ℕ

-- the address of a group
abbrev pub base_of : Group → Bases → ℕ
base_of Descriptors b = b.descriptors
base_of DirectoryEnds b = b.directory_ends
base_of Lookups b = b.lookups
base_of Addresses b = b.addresses
base_of HintNames b = b.hint_names
base_of DllNames b = b.dll_names

-- the addresses, with another one for a group
abbrev pub with_base : Group → ℕ → Bases → Bases
with_base Descriptors n b = record b { descriptors = n }
with_base DirectoryEnds n b = record b { directory_ends = n }
with_base Lookups n b = record b { lookups = n }
with_base Addresses n b = record b { addresses = n }
with_base HintNames n b = record b { hint_names = n }
with_base DllNames n b = record b { dll_names = n }

-- The alignment in bytes that a section's flags say (PE/COFF specification, "Section Flags"): their
-- field of mask 0xF00000 is 1 more than its exponent. For example, of 0xC0300040 it is 4. A field
-- of 0, which no section of the import tables has, gives 1 here.
abbrev pub alignment : ℕ → ℕ
alignment flags = 2 ^ (flags / 0x0010_0000 % 16 - 1)

-- the first multiple of a step that is not below a number
unfoldable pub next_multiple : ℕ → ℕ → ℕ
next_multiple step n = n + (step - n % step) % step

-- the address of a section: none, if it is of no group
pub data SectionAddress : Type 0 where
  Unplaced : SectionAddress
  At : Group → ℕ → SectionAddress

-- the address after the ends of what is placed already
abbrev pub address_after : Bases → ℕ → Option Group → SectionAddress
address_after ends flags None = Unplaced
address_after ends flags (Some group) =
    At group (next_multiple (alignment flags) (base_of group ends))

-- the ends, when `size` bytes are at this address too
abbrev pub end_after : Bases → SectionAddress → ℕ → Bases
end_after ends Unplaced size = ends
end_after ends (At group address) size = with_base group (address + size) ends

-- the address of a section, after these ends
abbrev pub section_address_of : Bases → ObjectSection → SectionAddress
section_address_of ends s = address_after ends s.flags (group_named s.name)

-- the addresses of sections that are placed one after another
abbrev pub section_addresses_of : Bases → List ObjectSection → List SectionAddress
section_addresses_of ends [] = []
section_addresses_of ends (s ∷ sections) =
    section_address_of ends s
    ∷ section_addresses_of (end_after ends (section_address_of ends s) (length s.bytes)) sections

-- the ends after them
abbrev pub ends_after : Bases → List ObjectSection → Bases
ends_after ends [] = ends
ends_after ends (s ∷ sections) =
    ends_after (end_after ends (section_address_of ends s) (length s.bytes)) sections

-- an object with the addresses of its sections
pub record Placed : Type 0 where
  pub object : Object
  pub section_addresses : List SectionAddress

-- Objects that are placed in their order. Each group has an address from which on it is free: its
-- base, and then the end of the last section placed. A section goes there, or as far after it as
-- its alignment makes it; a base that the alignment divides is taken as it is. For example, on
-- AMD64 the thunk of the tail, after two entries from 0x1020 on, goes to 0x1030.
abbrev pub placed_from : Bases → List Object → List Placed
placed_from ends [] = []
placed_from ends (o ∷ objects) =
    record { object = o; section_addresses = section_addresses_of ends o.sections }
    ∷ placed_from (ends_after ends o.sections) objects
