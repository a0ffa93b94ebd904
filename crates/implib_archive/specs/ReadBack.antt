-- What a reader of archives finds in the archives of members.
use Rattle.std.specs.Prelude.{◌≡◌, ℕ, ◌+◌, ◌%◌, List, [], ◌∷◌, ◌++◌, None, Some, codes}
use Rattle.std.specs.Prelude.{if◌then◌else◌, length, map, nat_lt, take}
use Rattle.implib.specs.Members.MemberSpec.{MemberView}
use Rattle.implib_archive.specs.Archive.{archive_of, entries_of, first_linker, long_names}
use Rattle.implib_archive.specs.Archive.{name_field, names_bytes, places_of, second_linker}
use Rattle.implib_archive.specs.Archive.{sorted_entries}
use Rattle.implib_archive.specs.Parts.{field, padding}
use Rattle.implib_archive.specs.Reader.{Read, Stored, members_in, stored_at, stored_in}
use Rattle.implib_archive.specs.Refusal.{refusal_of}
use Rattle.implib_archive.specs.declared.kind.Kind.{Kind}
use Rattle.implib_archive.specs.declared.kind.Kind.TheVariants.{Coff, Gnu}

-- a part as it is stored: its name in a field, and its data
abbrev pub stored : List ℕ → List ℕ → Stored
stored name contents = record { field = field 16 name; contents = contents }

-- data with its padding within
abbrev pub padded : ℕ → List ℕ → List ℕ
padded byte contents = contents ++ padding byte (length contents)

-- the linker members: both in the COFF kind, and the first alone in the GNU kind, where there is an
-- entry
unfoldable pub stored_linkers : Kind → List ℕ → List (List ℕ × ℕ) → List Stored
stored_linkers Coff places entries =
    stored (codes "/") (padded 0 (first_linker places entries))
    ∷ stored (codes "/") (padded 0 (second_linker places (sorted_entries entries))) ∷ []
stored_linkers Gnu places entries =
    if nat_lt 0 (length entries)
    then stored (codes "/") (padded 0 (first_linker places entries)) ∷ [] else []

-- the long names member, where there is a long name
unfoldable pub stored_names : List ℕ → List Stored
stored_names names =
    if nat_lt 0 (length names) then stored (codes "//") (padded 10 names) ∷ [] else []

-- a member
abbrev pub stored_member : List (List ℕ × ℕ) → MemberView → Stored
stored_member names m = stored (name_field names m.name) m.bytes

-- all parts of an archive, in order
unfoldable pub parts_of : Kind → List MemberView → List Stored
parts_of kind members =
    stored_linkers kind (places_of kind members) (entries_of kind members)
    ++ stored_names (names_bytes kind (long_names kind members))
    ++ map (stored_member (long_names kind members)) members

-- In an archive a reader finds the linker members, the long names and each member in order, and
-- nothing else.
abbrev pub PartsReadBack : Type 0
PartsReadBack = (kind : Kind) (members : List MemberView) → refusal_of kind members ≡ None
    → stored_in (archive_of kind members) ≡ Some (parts_of kind members)

-- Parts follow one another in the bytes from an offset to the end: each is found by its header at
-- its offset, and the next header begins where the data and its padding end.
unfoldable pub AreLaidOut : List ℕ → ℕ → List Stored → Type 0
AreLaidOut bytes place [] = place ≡ length bytes
AreLaidOut bytes place (s ∷ parts) =
    (stored_at bytes place ≡ Some s)
    × AreLaidOut bytes (place + (60 + length s.contents + length s.contents % 2)) parts

-- a member as a reader finds it: its name and its bytes
abbrev pub read_view : MemberView → Read
read_view m = record { name = m.name; bytes = m.bytes }

-- What a reader finds in the bytes of an archive:
-- `signed`: they begin with the signature;
-- `laid_out`: from there to the end stand the linker members, the long names and the members; so no
-- two headers overlap, and nothing else is in the bytes;
-- `in_order`: the members, in order, each with its whole name and its bytes.
pub record AreReadBack (kind : Kind) (members : List MemberView) (bytes : List ℕ) : Type 0 where
  pub signed : take 8 bytes ≡ codes "!<arch>\n"
  pub laid_out : AreLaidOut bytes 8 (parts_of kind members)
  pub in_order : members_in kind bytes ≡ Some (map read_view members)

-- so it is in every archive
abbrev pub MembersReadBack : Type 0
MembersReadBack = (kind : Kind) (members : List MemberView) → refusal_of kind members ≡ None
    → AreReadBack kind members (archive_of kind members)
