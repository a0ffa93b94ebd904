-- The archive of a library of ARM64EC: of the COFF kind, with one index more (LLVM,
-- "ArchiveWriter.cpp"). Its linker members list the symbols of ARM64's members alone, and the
-- further index those that ARM64EC takes. Numbers and offsets are those of all members, whose names
-- and bytes each list has.
use Rattle.std.specs.Prelude.{ℕ, ◌+◌, List, ◌++◌, Option, Some, codes, flat_map, if◌then◌else◌}
use Rattle.std.specs.Prelude.{is_some, length}
use Rattle.implib_archive.specs.Archive.{entries_of, first_place, front, long_names, member_part}
use Rattle.implib_archive.specs.Archive.{places_from, sorted_entries, strings_of}
use Rattle.implib_archive.specs.Parts.{Label, padded_part_bytes, part_size, u16_le, u32_le}
use Rattle.implib_archive.specs.Refusal.{has_too_many, members_refusal, places_refusal}
use Rattle.implib_archive.specs.declared.error.Fault.{Fault}
use Rattle.implib_archive.specs.declared.error.Fault.TheVariants.{TooManyMembers}
use Rattle.implib_archive.specs.declared.kind.Kind.TheVariants.{Coff}
use Rattle.implib_arm64ec.specs.Library.{LibraryView, for_arm64, for_arm64ec, members_of}

-- the entries of the linker members
abbrev pub arm64_entries : LibraryView → List (List ℕ × ℕ)
arm64_entries l = entries_of Coff (for_arm64 l)

-- the entries of the EC index, in the order of their symbols' bytes
abbrev pub ec_entries : LibraryView → List (List ℕ × ℕ)
ec_entries l = sorted_entries (entries_of Coff (for_arm64ec l))

-- the texts in the header of the EC index
unfoldable pub ec_label : Label
ec_label = record {
  name = codes "/<ECSYMBOLS>/";
  date = codes "0";
  owner = codes "0";
  mode = codes "0";
}

-- the data of the EC index, but for its padding: how many entries, the number of each one's member
-- from 1, and the symbols
unfoldable pub ec_index : List (List ℕ × ℕ) → List ℕ
ec_index entries =
    u32_le (length entries) ++ flat_map (λ e. u16_le e.1) entries ++ strings_of entries

-- the EC index as a part of the archive
unfoldable pub ec_part : List (List ℕ × ℕ) → List ℕ
ec_part entries = padded_part_bytes ec_label 0 (ec_index entries)

-- the offset of the first member's header
abbrev pub first_member_place : LibraryView → ℕ
first_member_place l = first_place Coff (for_arm64 l) + part_size (length (ec_index (ec_entries l)))

-- the offsets of the members' headers
abbrev pub member_places : LibraryView → List ℕ
member_places l = places_from (first_member_place l) (for_arm64 l)

-- the long names
abbrev pub library_names : LibraryView → List (List ℕ × ℕ)
library_names l = long_names Coff (for_arm64 l)

-- what is before the members: signature, linker members, long names and the EC index
unfoldable pub ec_front : LibraryView → List ℕ
ec_front l =
    front Coff (member_places l) (arm64_entries l) (library_names l) ++ ec_part (ec_entries l)

-- the members
unfoldable pub ec_members : LibraryView → List ℕ
ec_members l = flat_map (member_part (library_names l)) (for_arm64 l)

-- the archive
unfoldable pub ec_archive : LibraryView → List ℕ
ec_archive l = ec_front l ++ ec_members l

-- The one cause for which there is no archive of a library, if any: the first member that is
-- refused, then their number, then the length of the archive, of which the EC index is a part.
unfoldable pub library_refusal : LibraryView → Option Fault
library_refusal l =
    if is_some (members_refusal Coff (members_of l)) then members_refusal Coff (members_of l)
    else (if has_too_many Coff (members_of l) then Some TooManyMembers
    else places_refusal (first_member_place l) (for_arm64 l))
