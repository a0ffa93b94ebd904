-- Archives of members in two kinds: COFF (Microsoft's; the PE/COFF specification, "Archive
-- (Library) File Format") and GNU (System V's).
use Rattle.std.specs.Prelude.{ℕ, ◌+◌, ◌-◌, ◌*◌, Bool, List, [], ◌∷◌, ◌++◌, Option, None, Some, ◌||◌}
use Rattle.std.specs.Prelude.{bytes_eq, codes, decimal, flat_map, fold, if◌then◌else◌, length}
use Rattle.std.specs.Prelude.{get_or, map, nat_eq, nat_lt, unwrap_or, is_some}
use Rattle.std.specs.List.{list_any}
use Rattle.std.specs.Cmp.Lexicographic.{slice_cmp}
use Rattle.std.specs.Ordering.{nat_cmp}
use Rattle.std.specs.BTreeMap.{insert_entry}
use Rattle.implib.specs.Members.MemberSpec.{MemberView}
use Rattle.implib_archive.specs.Parts.{Label, padded_part_bytes, part_bytes, part_size, signature}
use Rattle.implib_archive.specs.Parts.{u16_le, u32_be, u32_le}
use Rattle.implib_archive.specs.declared.kind.Kind.{Kind}
use Rattle.implib_archive.specs.declared.kind.Kind.TheVariants.{Coff, Gnu}

-- The entries of the index: a symbol, and the number of its member, counted from 1.

-- the entries of some members, the first of which has this number, in order
unfoldable pub entries_from : ℕ → List MemberView → List (List ℕ × ℕ)
entries_from number [] = []
entries_from number (m ∷ members) =
    map (λ symbol. (symbol, number)) m.symbols ++ entries_from (number + 1) members

-- whether some entry has the symbol
abbrev pub is_listed : List (List ℕ × ℕ) → List ℕ → Bool
is_listed entries symbol = list_any (λ e. bytes_eq symbol e.0) entries

-- the entries and one more, unless its symbol is listed
unfoldable pub with_first : List (List ℕ × ℕ) → List ℕ × ℕ → List (List ℕ × ℕ)
with_first entries e = if is_listed entries e.0 then entries else entries ++ e ∷ []

-- the entries of the index: all of them in the GNU kind, and of each symbol the first in the COFF
-- kind
unfoldable pub entries_of : Kind → List MemberView → List (List ℕ × ℕ)
entries_of Gnu members = entries_from 1 members
entries_of Coff members = fold with_first [] (entries_from 1 members)

-- the entries in the order of their symbols' bytes
unfoldable pub sorted_entries : List (List ℕ × ℕ) → List (List ℕ × ℕ)
sorted_entries entries =
    fold (λ sorted e. insert_entry (slice_cmp nat_cmp) sorted e.0 e.1) [] entries

-- the symbols of entries, each ended by a NUL
unfoldable pub strings_of : List (List ℕ × ℕ) → List ℕ
strings_of entries = flat_map (λ e. e.0 ++ 0 ∷ []) entries

-- Long names.

-- a name that a header cannot have in its field: more than 15 bytes, or with a slash
unfoldable pub is_long : List ℕ → Bool
is_long name = nat_lt 15 (length name) || list_any (λ c. nat_eq c 47) name

-- what ends a long name
unfoldable pub name_end : Kind → List ℕ
name_end Coff = 0 ∷ []
name_end Gnu = 47 ∷ 10 ∷ []

-- the long names with their offsets, as the data of their member
unfoldable pub names_bytes : Kind → List (List ℕ × ℕ) → List ℕ
names_bytes kind names = flat_map (λ n. n.0 ++ name_end kind) names

-- the offset of a long name, if it is among them
unfoldable pub offset_of : List (List ℕ × ℕ) → List ℕ → Option ℕ
offset_of [] name = None
offset_of (n ∷ names) name = if bytes_eq name n.0 then Some n.1 else offset_of names name

-- the long names and one more after them, if it is long and not among them
unfoldable pub with_name : Kind → List (List ℕ × ℕ) → List ℕ → List (List ℕ × ℕ)
with_name kind names name =
    if is_long name then (if is_some (offset_of names name) then names
    else names ++ (name, length (names_bytes kind names)) ∷ []) else names

-- the long names of the members, each once, in the order of their first use
unfoldable pub long_names : Kind → List MemberView → List (List ℕ × ℕ)
long_names kind members = fold (λ names m. with_name kind names m.name) [] members

-- the name in the header of a member: itself and a slash, or a slash and the offset of the long
-- name
unfoldable pub name_field : List (List ℕ × ℕ) → List ℕ → List ℕ
name_field names name =
    if is_long name then codes "/" ++ decimal (unwrap_or (offset_of names name) 0)
    else name ++ codes "/"

-- The headers' texts.

-- a linker member
unfoldable pub linker_label : Label
linker_label = record { name = codes "/"; date = codes "0"; owner = codes "0"; mode = codes "0" }

-- the long names member
unfoldable pub names_label : Label
names_label = record { name = codes "//"; date = []; owner = []; mode = [] }

-- a member
unfoldable pub member_label : List (List ℕ × ℕ) → List ℕ → Label
member_label names name =
    record { name = name_field names name; date = codes "0"; owner = codes "0"; mode = codes "644" }

-- Offsets in the archive.

-- the offsets of the members' headers, the first of which is at this one
unfoldable pub places_from : ℕ → List MemberView → List ℕ
places_from place [] = []
places_from place (m ∷ members) = place ∷ places_from (place + part_size (length m.bytes)) members

-- the offset after the members, the first of which begins at this one
unfoldable pub end_from : ℕ → List MemberView → ℕ
end_from place [] = place
end_from place (m ∷ members) = end_from (place + part_size (length m.bytes)) members

-- the size of the first linker member with its header, by the number of entries and the size of
-- their strings
unfoldable pub first_linker_size : Kind → ℕ → ℕ → ℕ
first_linker_size Coff entries strings = part_size (4 + 4 * entries + strings)
first_linker_size Gnu entries strings =
    if nat_lt 0 entries then part_size (4 + 4 * entries + strings) else 0

-- the size of the second linker member, which the COFF kind alone has, with its header
unfoldable pub second_linker_size : Kind → ℕ → ℕ → ℕ → ℕ
second_linker_size Coff members entries strings =
    part_size (8 + 4 * members + 2 * entries + strings)
second_linker_size Gnu members entries strings = 0

-- the size of the long names member, with its header, where there is a long name
unfoldable pub names_size : ℕ → ℕ
names_size size = if nat_lt 0 size then part_size size else 0

-- the size of the front: by the numbers of members and entries, and the sizes of strings and long
-- names
unfoldable pub front_size : Kind → ℕ → ℕ → ℕ → ℕ → ℕ
front_size kind members entries strings names =
    8 + first_linker_size kind entries strings + second_linker_size kind members entries strings
    + names_size names

-- the offset of the first member's header
unfoldable pub first_place : Kind → List MemberView → ℕ
first_place kind members =
    let entries = entries_of kind members in
    front_size kind (length members) (length entries) (length (strings_of entries))
    (length (names_bytes kind (long_names kind members)))

-- the offsets of the members' headers
abbrev pub places_of : Kind → List MemberView → List ℕ
places_of kind members = places_from (first_place kind members) members

-- the offset of the header of a member by its number
unfoldable pub place_of : List ℕ → ℕ → ℕ
place_of places number = get_or places (number - 1) 0

-- The archive.

-- the data of the first linker member, but for its padding
unfoldable pub first_linker : List ℕ → List (List ℕ × ℕ) → List ℕ
first_linker places entries =
    u32_be (length entries) ++ flat_map (λ e. u32_be (place_of places e.1)) entries
    ++ strings_of entries

-- the data of the second linker member, but for its padding
unfoldable pub second_linker : List ℕ → List (List ℕ × ℕ) → List ℕ
second_linker places sorted =
    u32_le (length places) ++ flat_map u32_le places ++ u32_le (length sorted)
    ++ flat_map (λ e. u16_le e.1) sorted ++ strings_of sorted

-- the linker members: both in the COFF kind, and the first alone in the GNU kind, where there is an
-- entry
unfoldable pub linkers : Kind → List ℕ → List (List ℕ × ℕ) → List ℕ
linkers Coff places entries =
    padded_part_bytes linker_label 0 (first_linker places entries)
    ++ padded_part_bytes linker_label 0 (second_linker places (sorted_entries entries))
linkers Gnu places entries =
    if nat_lt 0 (length entries) then padded_part_bytes linker_label 0 (first_linker places entries)
    else []

-- the long names member, where there is a long name
unfoldable pub names_part : List ℕ → List ℕ
names_part names = if nat_lt 0 (length names) then padded_part_bytes names_label 10 names else []

-- the front of an archive: signature, linker members and long names, by member offsets, entries and
-- long names
unfoldable pub front : Kind → List ℕ → List (List ℕ × ℕ) → List (List ℕ × ℕ) → List ℕ
front kind places entries names =
    signature ++ linkers kind places entries ++ names_part (names_bytes kind names)

-- the front of the archive of the members
unfoldable pub front_of : Kind → List MemberView → List ℕ
front_of kind members =
    front kind (places_of kind members) (entries_of kind members) (long_names kind members)

-- a member in the archive
unfoldable pub member_part : List (List ℕ × ℕ) → MemberView → List ℕ
member_part names m = part_bytes (member_label names m.name) m.bytes

-- the archive of the members
unfoldable pub archive_of : Kind → List MemberView → List ℕ
archive_of kind members =
    front_of kind members ++ flat_map (member_part (long_names kind members)) members

-- what an archive of the program holds
pub record ArchiveView : Type 0 where
  pub kind : Kind
  pub members : List MemberView
