-- Archives of any maker: the common archive format, with a second linker member or without, and
-- with or without the byte that pads its last member to an even size.
use Rattle.std.specs.Prelude.{◌≡◌, ℕ, zero, suc, ◌+◌, ◌%◌, ◌==◌, Bool, false, List, [], ◌∷◌, Option}
use Rattle.std.specs.Prelude.{None, Some, bytes_eq, codes, drop, if◌then◌else◌, length, map}
use Rattle.std.specs.Prelude.{option_and_then, take}
use Rattle.std.specs.List.{filter_map}
use Rattle.std.specs.Option.{option_map}
use Rattle.implib_archive.specs.Reader.{Stored, stored_at, stored_in}
use Rattle.implib_read.specs.MemberNames.{MemberName, LinkerMember, LongNamesMember, NameAt, Named}
use Rattle.implib_read.specs.MemberNames.{Special, long_name_of, member_name}

-- a part of an archive: the offset of its header in the file, its name, and the data after the
-- header
pub record Part : Type 0 where
  pub offset : ℕ
  pub name : MemberName
  pub contents : List ℕ

-- the part of a header and its data
abbrev pub part_of : ℕ → Stored → Part
part_of offset s = record { offset = offset; name = member_name s.field; contents = s.contents }

-- the name and the data of a header, and of a part
abbrev pub said : Stored → MemberName × List ℕ
said s = (member_name s.field, s.contents)

abbrev pub said_by_part : Part → MemberName × List ℕ
said_by_part p = (p.name, p.contents)

-- The parts after the next bytes, a number of which still belong to the part before. The first of
-- the next bytes is at an offset of the file. At the end one byte may be missing, the padding of
-- the last part.
unfoldable pub parts_from : ℕ → ℕ → List ℕ → Option (List Part)
parts_from zero offset [] = Some []
parts_from (suc left) offset [] = if left == 0 then Some [] else None
parts_from (suc left) offset (x ∷ rest) = parts_from left (suc offset) rest
parts_from zero offset (x ∷ rest) = option_and_then
    (λ s. option_map
    (λ others. part_of offset s ∷ others)
    (parts_from (59 + length s.contents + length s.contents % 2) (suc offset) rest))
    (stored_at (x ∷ rest) 0)

-- the parts of an archive, after its signature of 8 bytes
unfoldable pub parts_in : List ℕ → Option (List Part)
parts_in bytes =
    if bytes_eq (take 8 bytes) (codes "!<arch>\n") then parts_from 0 8 (drop 8 bytes) else None

-- where a header is cut off, or what follows it
abbrev pub cut_or : ℕ → (Stored → Option ℕ) → Option Stored → Option ℕ
cut_or offset more None = Some offset
cut_or offset more (Some s) = more s

-- Where the parts after the next bytes are cut off: the offset of the first header that is none, or
-- whose data leads out of the bytes.
unfoldable pub cut_from : ℕ → ℕ → List ℕ → Option ℕ
cut_from zero offset [] = None
cut_from (suc left) offset [] = None
cut_from (suc left) offset (x ∷ rest) = cut_from left (suc offset) rest
cut_from zero offset (x ∷ rest) =
    cut_or offset (λ s. cut_from (59 + length s.contents + length s.contents % 2) (suc offset) rest)
    (stored_at (x ∷ rest) 0)

-- where bytes that begin as an archive are cut off, if they are
unfoldable pub cut_in : List ℕ → Option ℕ
cut_in bytes =
    if bytes_eq (take 8 bytes) (codes "!<arch>\n") then cut_from 0 8 (drop 8 bytes) else None

-- the data of the long names, given what is found after a part
abbrev pub long_names_or : MemberName → List ℕ → List ℕ → List ℕ
long_names_or LinkerMember contents others = others
long_names_or LongNamesMember contents others = contents
long_names_or (NameAt offset) contents others = others
long_names_or (Named text) contents others = others
long_names_or (Special text) contents others = others

-- the data of the first part that has long names, or nothing
abbrev pub long_names_in : List Part → List ℕ
long_names_in [] = []
long_names_in (p ∷ parts) = long_names_or p.name p.contents (long_names_in parts)

-- a member that is stored: its name, its bytes, and the offset of its header in the file
pub record StoredMember : Type 0 where
  pub name : List ℕ
  pub bytes : List ℕ
  pub offset : ℕ

-- the member of a name
abbrev pub member_named : ℕ → List ℕ → List ℕ → StoredMember
member_named offset contents name = record { name = name; bytes = contents; offset = offset }

-- the member that a part of a name is, given the long names: none for an index, the long names, and
-- special parts
abbrev pub member_as : List ℕ → ℕ → List ℕ → MemberName → Option StoredMember
member_as names offset contents LinkerMember = None
member_as names offset contents LongNamesMember = None
member_as names offset contents (Special text) = None
member_as names offset contents (NameAt place) =
    Some (member_named offset contents (long_name_of (drop place names)))
member_as names offset contents (Named text) = Some (member_named offset contents text)

-- the member that a part is, if it is one
abbrev pub member_of : List ℕ → Part → Option StoredMember
member_of names p = member_as names p.offset p.contents p.name

-- an archive: its parts, and those that are members, in order
pub record Archive : Type 0 where
  pub parts : List Part
  pub members : List StoredMember

-- the archive of these parts
abbrev pub archive_of : List Part → Archive
archive_of parts =
    record { parts = parts; members = filter_map (member_of (long_names_in parts)) parts }

-- The archive that these bytes are. For example, the 8 bytes of the signature are the archive of no
-- parts.
unfoldable pub archive_in : List ℕ → Option Archive
archive_in bytes = option_map archive_of (parts_in bytes)

-- whether a name is that of the EC index, which has the symbols of ARM64EC's members
abbrev pub is_ec_name : MemberName → Bool
is_ec_name LinkerMember = false
is_ec_name LongNamesMember = false
is_ec_name (NameAt offset) = false
is_ec_name (Named text) = false
is_ec_name (Special text) = bytes_eq text (codes "/<ECSYMBOLS>/")

-- the data of the first part that is an EC index, if there is one
abbrev pub ec_index_in : List Part → Option (List ℕ)
ec_index_in [] = None
ec_index_in (p ∷ parts) = if is_ec_name p.name then Some p.contents else ec_index_in parts

-- Where `implib_archive`'s reader has the parts of an archive, this one has them too, with the same
-- data, and names that their fields say.
abbrev pub SameParts : Type 0
SameParts = (bytes : List ℕ) (parts : List Stored) → stored_in bytes ≡ Some parts
    → option_map (map said_by_part) (parts_in bytes) ≡ Some (map said parts)
