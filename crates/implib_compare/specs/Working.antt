-- Whether a library works: whether its indexes lead to what they name, each linker asks for the
-- same by its short imports, and its chains of import tables are whole (this project's choice;
-- docs/CHECK.md, "Whether a library works").
use Rattle.std.specs.Prelude.{ℕ, ◌-◌, ◌==◌, Bool, true, false, ◌&&◌, ◌||◌, List, [], ◌∷◌, ◌++◌}
use Rattle.std.specs.Prelude.{Option, None, Some, bytes_eq, fold, if◌then◌else◌, length, map}
use Rattle.std.specs.Prelude.{unwrap_or}
use Rattle.std.specs.List.{list_any}
use Rattle.std.specs.Option.{is_some, option_and_then, option_map, option_map_or}
use Rattle.implib.specs.declared.flavor.Flavor.{Flavor}
use Rattle.implib.specs.declared.flavor.Flavor.TheVariants.{Gnu, Msvc}
use Rattle.implib_read.specs.Archives.{Archive, Part, StoredMember, ec_index_in}
use Rattle.implib_read.specs.Classes.{Class, Descriptor, NullDescriptor, NullThunk, Head, Tail}
use Rattle.implib_read.specs.Classes.{MemberRead}
use Rattle.implib_read.specs.Cutting.{Cut, cut_apart}
use Rattle.implib_read.specs.Identity.{dlls_of}
use Rattle.implib_read.specs.Indexes.{IndexEntry, ec_entries_in, first_index_in, offset_numbered}
use Rattle.implib_read.specs.Indexes.{second_index_in}
use Rattle.implib_read.specs.Leads.{first_declarer, first_ec_declarer, members_for, wrong_entries}
use Rattle.implib_read.specs.MemberNames.{MemberName, LinkerMember, LongNamesMember, NameAt, Named}
use Rattle.implib_read.specs.MemberNames.{Special}
use Rattle.implib_compare.specs.Comparison.{has_unread}
use Rattle.implib_compare.specs.Flavors.{flavor_of}
use Rattle.implib_compare.specs.declared.working.Piece.{Piece}
use Rattle.implib_compare.specs.declared.working.Piece.TheVariants as piece
use Rattle.implib_compare.specs.declared.working.Working.{Working}
use Rattle.implib_compare.specs.declared.working.Working.TheVariants.{Broken, NotDecided, Works}

-- Indexes.

-- whether a part is a linker member
abbrev pub is_linker : MemberName → Bool
is_linker LinkerMember = true
is_linker LongNamesMember = false
is_linker (NameAt offset) = false
is_linker (Named text) = false
is_linker (Special text) = false

-- the data of the linker member that comes after a number of others, if there is one
abbrev pub linker_member : ℕ → List Part → Option (List ℕ)
linker_member skipped [] = None
linker_member skipped (p ∷ parts) =
    if is_linker p.name
    then (if skipped == 0 then Some p.contents else linker_member (skipped - 1) parts)
    else linker_member skipped parts

-- entries, with one more unless one of its symbol is among them
abbrev pub with_first : List IndexEntry → IndexEntry → List IndexEntry
with_first entries e =
    if list_any (λ f. bytes_eq e.symbol f.symbol) entries then entries else entries ++ e ∷ []

-- The first entry of each symbol. A linker goes by it; later entries of the symbol it passes over.
abbrev pub first_entries : List IndexEntry → List IndexEntry
first_entries entries = fold with_first [] entries

-- the first entries of symbols that do not lead to the first member that declares their symbol
abbrev pub misleading : List StoredMember → List IndexEntry → List IndexEntry
misleading members entries = wrong_entries (first_declarer members) (first_entries entries)

-- the entries of the first linker member by which a linker is misled
abbrev pub first_misleads : List StoredMember → List ℕ → Option (List IndexEntry)
first_misleads members contents = option_map (misleading members) (first_index_in contents)

-- an entry of the second linker member with the offset that its number has, or 0, where no member
-- is
abbrev pub with_offset : List ℕ → IndexEntry → IndexEntry
with_offset offsets e =
    record { symbol = e.symbol; place = unwrap_or (offset_numbered offsets e.place) 0 }

-- the same of the second linker member
abbrev pub second_misleads : List StoredMember → List ℕ → Option (List IndexEntry)
second_misleads members contents =
    option_map (λ i. misleading members (map (with_offset i.offsets) i.entries))
    (second_index_in contents)

-- the members whose symbols the linker members have: all or, beside an EC index, those of ARM64
abbrev pub linked_members : Archive → List StoredMember
linked_members a = if is_some (ec_index_in a.parts) then members_for true a.members else a.members

-- what is found of the first linker member, if there is one: the entries by which a linker is
-- misled, if it can be read
abbrev pub first_found : Archive → Option (Option (List IndexEntry))
first_found a = option_map (first_misleads (linked_members a)) (linker_member 0 a.parts)

-- the same of the second
abbrev pub second_found : Archive → Option (Option (List IndexEntry))
second_found a = option_map (second_misleads (linked_members a)) (linker_member 1 a.parts)

-- the offsets of the second linker member, or none where it is not there or cannot be read
abbrev pub second_offsets : Archive → List ℕ
second_offsets a =
    option_map_or (λ i. i.offsets) (option_and_then second_index_in (linker_member 1 a.parts)) []

-- The entries of an EC index by which a linker is misled, given the offsets of the second linker
-- member: of each symbol the first, if it does not lead where it ought to.
abbrev pub ec_misleads : List StoredMember → List ℕ → List ℕ → Option (List IndexEntry)
ec_misleads members offsets contents = option_map
    (λ entries. wrong_entries (first_ec_declarer members)
    (first_entries (map (with_offset offsets) entries)))
    (ec_entries_in contents)

-- what is found of the EC index, if there is one
abbrev pub ec_found : Archive → Option (Option (List IndexEntry))
ec_found a = option_map (ec_misleads a.members (second_offsets a)) (ec_index_in a.parts)

-- whether an index misleads, given what is found of it: it cannot be read, or an entry does
abbrev pub misled_by : Option (List IndexEntry) → Bool
misled_by None = true
misled_by (Some []) = false
misled_by (Some (e ∷ entries)) = true

-- Whether the indexes mislead, given what is found of the first and of the second. Without a first
-- one a linker finds nothing.
abbrev pub misled : Option (Option (List IndexEntry)) → Option (Option (List IndexEntry)) → Bool
misled None second = true
misled (Some first) second = misled_by first || option_map_or misled_by second false

-- whether one of three indexes does, given what is found of the EC index, too
abbrev pub some_misled : Option (Option (List IndexEntry)) → Option (Option (List IndexEntry)) →
    Option (Option (List IndexEntry)) → Bool
some_misled first second ec = misled first second || option_map_or misled_by ec false

-- Short imports.

-- whether linkers ask for different names by some short import, given those by which they do
abbrev pub is_some_cut : List (StoredMember × Cut) → Bool
is_some_cut [] = false
is_some_cut (c ∷ cuts) = true

-- Import tables.

-- whether a member is this part of import tables
abbrev pub is_piece : Piece → Class → Bool
is_piece piece.OfDescriptor Descriptor = true
is_piece piece.OfDescriptor _ = false
is_piece piece.OfNullDescriptor NullDescriptor = true
is_piece piece.OfNullDescriptor _ = false
is_piece piece.OfNullThunk NullThunk = true
is_piece piece.OfNullThunk _ = false
is_piece piece.OfHead Head = true
is_piece piece.OfHead _ = false
is_piece piece.OfTail Tail = true
is_piece piece.OfTail _ = false

-- whether one member more is this part, or none where one has been
abbrev pub has_one_from : Bool → Piece → List MemberRead → Bool
has_one_from seen wanted [] = seen
has_one_from seen wanted (m ∷ members) =
    if is_piece wanted m.class then (if seen then false else has_one_from true wanted members)
    else has_one_from seen wanted members

-- whether just one member is this part
abbrev pub has_one : Piece → List MemberRead → Bool
has_one wanted members = has_one_from false wanted members

-- Whether the import tables of a DLL are whole. An import for GNU's linker is read by its chain,
-- from its own fields to the head's descriptor and the tail's name; so what is left to ask is that
-- head and tail are there once. The members of Microsoft's import tables are found by their
-- symbols.
abbrev pub has_whole_tables : Flavor → List MemberRead → Bool
has_whole_tables Msvc members =
    has_one piece.OfDescriptor members
    && (has_one piece.OfNullDescriptor members && has_one piece.OfNullThunk members)
has_whole_tables Gnu members = has_one piece.OfHead members && has_one piece.OfTail members

-- Whether a library works: given whether an index or a short import misleads, whether a member may
-- import what is not read, of how many DLLs the imports are, and whether the tables of one are
-- whole. Of two DLLs the tables are not told apart.
abbrev pub works_of : Bool → Bool → ℕ → Bool → Working
works_of misleads unread dlls whole =
    if misleads then Broken else if unread then NotDecided else if dlls == 0 then Works
    else if dlls == 1 then (if whole then Works else Broken) else NotDecided

-- whether a library works, given its archive and what each member is for
abbrev pub working_of : Archive → List MemberRead → Working
working_of a members =
    works_of (some_misled (first_found a) (second_found a) (ec_found a)
    || is_some_cut (cut_apart a.members)) (has_unread members) (length (dlls_of members))
    (has_whole_tables (flavor_of members) members)

-- of whether a library works: 0 it does, 1 it does not, 4 not decided
abbrev pub working_status : Working → ℕ
working_status Works = 0
working_status Broken = 1
working_status NotDecided = 4

-- whether two libraries work, given whether each does
abbrev pub both_work : Working → Working → Working
both_work Broken other = Broken
both_work NotDecided Broken = Broken
both_work NotDecided NotDecided = NotDecided
both_work NotDecided Works = NotDecided
both_work Works other = other
