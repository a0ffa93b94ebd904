-- The indexes of the library of a definition.
use Rattle.std.proofs.Common.{◌≡◌, ◌∙◌, ℕ, zero, suc, ◌+◌, ◌-◌, ◌%◌, ◌^◌, ◌<◌, ◌≤◌, ◌==◌, Bool, true, false, ◌||◌, List, [], ◌∷◌, ◌++◌, Option, None, Some, ap, arith, bytes_eq, codes, drop, if◌then◌else◌, inl, inr, length, map, nat_lt, refl, subst, sym, take, unwrap_or}
use Rattle.std.specs.List.{AllByRecursion, cons_option, filter_map, list_any}
use Rattle.std.specs.Map.{lookup}
use Rattle.std.specs.Option.{option_and_then, option_map, option_or}
use Rattle.std.specs.Prelude.{slice_get}
use Rattle.std.proofs.lemmas.Bool.{true≢false}
use Rattle.std.proofs.lemmas.Option.{same_Some}
use Rattle.std.proofs.lemmas.Slice.Eq.{bytes_eq-Decides}
use Rattle.implib.specs.Members.MemberSpec.{MemberView}
use Rattle.implib_archive.specs.Archive.{archive_of, entries_of, first_linker, first_place, long_names, name_field, names_bytes, places_of, second_linker, sorted_entries}
use Rattle.implib_archive.specs.Leads.{first_lister, header_for, headers_among, headers_in, numbered, second_header_for, with_header}
use Rattle.implib_archive.specs.Parts.{field, padding}
use Rattle.implib_archive.specs.ReadBack.{padded, parts_of, read_view, stored, stored_linkers, stored_member, stored_names}
use Rattle.implib_archive.specs.Reader.{Name, Linker, LongNames, LongAt, Short, Unknown, Read, Stored, first_in, linker_data, linker_in, members_among, name_in, second_in, stored_at, stored_in, trimmed}
use Rattle.implib_archive.specs.Reader.{long_names_in as long_names_stored}
use Rattle.implib_archive.specs.Refusal.{refusal_of}
use Rattle.implib_archive.specs.declared.kind.Kind.{Kind}
use Rattle.implib_archive.specs.declared.kind.Kind.TheVariants.{Coff, Gnu}
use Rattle.implib_archive.proofs.FoundIndex.{first_data, second_data}
use Rattle.implib_archive.proofs.FoundMembers.{archive_named, members_found}
use Rattle.implib_archive.proofs.FoundNames.{HasName, HaveNames, linker_named}
use Rattle.implib_archive.proofs.Leading.{each_index_leads, each_second_leads}
use Rattle.implib_archive.proofs.Lookups.{lookup_mapped}
use Rattle.implib_archive.proofs.Numbered.{Each, each_entry, each_sorted, each_weaker, sorted_as_many}
use Rattle.implib_archive.proofs.Readings.{parts_read_back}
use Rattle.implib_archive.proofs.Whole.{accepted_parts, few_if_coff, front_fits, length-places}
use Rattle.implib_read.specs.Archives.{Archive, Part, SameParts, StoredMember, archive_in, long_names_in, member_as, member_of, part_of, parts_from, parts_in, said, said_by_part}
use Rattle.implib_read.specs.Archives.{archive_of as archive_of_parts}
use Rattle.implib_read.specs.Files.{file_found}
use Rattle.implib_read.specs.Indexes.{offset_numbered}
use Rattle.implib_read.specs.Leads.{declared_by_found, first_declarer, offset_if_listed}
use Rattle.implib_read.specs.MemberNames.{MemberName, LinkerMember, LongNamesMember, NameAt, Named, Special, member_name}
use Rattle.implib_read.proofs.OwnArchives.{bytes_as, bytes_by, found_by, is_known, same_bytes, step}
use Rattle.implib_read.specs.Objects.{SameObjects}
use Rattle.implib_read.specs.OwnLibraries.{OwnMembersFound}
use Rattle.implib_read.specs.ShortImports.{SameShortImports}
use Rattle.implib_read.proofs.OwnMsvc.{map_twice}
use Rattle.implib_rules.specs.Library.{definition_text, kind_of}
use Rattle.implib_rules.proofs.PlainNames.{plain_of}
use Rattle.implib_check_driver.specs.OwnIndexes.{IndexesLead, OwnIndexesLead}
use Rattle.implib_compare.specs.Working.{is_linker, linker_member, misleading, second_misleads, with_offset}
use Rattle.implib_compare.proofs.FirstEntries.{none_misleads, pair_of}
use Rattle.implib_check_driver.proofs.IndexReadings.{index_there}
use Rattle.implib_check_driver.proofs.ListedSymbols.{symbols_listed}
use Rattle.implib_check_driver.proofs.SecondIndex.{second_there}

-- The offsets of members.

-- parts follow one another, the first at an offset
unfoldable AreAt : ℕ → List Part → Type 0
AreAt place [] = Unit {0}
AreAt place (p ∷ parts) = (p.offset ≡ place) × AreAt (place + (60 + length p.contents + length p.contents % 2)) parts

-- one part and those after it
joined : (place : ℕ) (s : Stored) (o : Option (List Part)) (parts : List Part) → ((others : List Part) → o ≡ Some others → AreAt (place + (60 + length s.contents + length s.contents % 2)) others)
    → option_map (λ others. part_of place s ∷ others) o ≡ Some parts → AreAt place parts
unfolding AreAt
joined place s None parts rest found = cc
joined place s (Some others) parts rest found =
    let whole : part_of place s ∷ others ≡ parts = cc in
    subst (AreAt place) whole (refl, rest others refl)

parts_at : (left place : ℕ) (bytes : List ℕ) (parts : List Part) → parts_from left place bytes ≡ Some parts → AreAt (left + place) parts
unfolding parts_from AreAt
parts_at zero place [] parts is = let none : [] ≡ parts = cc in subst (AreAt (0 + place)) none tt
parts_at (suc left) place [] parts is = by (left == 0) is
  where
    by : (b : Bool) → (if b then Some [] else None) ≡ Some parts → AreAt (suc left + place) parts
    by true found = let none : [] ≡ parts = cc in subst (AreAt (suc left + place)) none tt
    by false found = cc
parts_at (suc left) place (x ∷ rest) parts is = subst (λ n. AreAt n parts) (omega arith) (parts_at left (suc place) rest parts is)
parts_at zero place (x ∷ rest) parts is = by (λ n. parts_at n (suc place) rest) (stored_at (x ∷ rest) 0) is
  where
    by : ((n : ℕ) (others : List Part) → parts_from n (suc place) rest ≡ Some others → AreAt (n + suc place) others) → (o : Option Stored)
        → option_and_then (λ s. option_map (λ others. part_of place s ∷ others) (parts_from (59 + length s.contents + length s.contents % 2) (suc place) rest)) o ≡ Some parts → AreAt (0 + place) parts
    by later None found = cc
    by later (Some s) found =
        let n = 59 + length s.contents + length s.contents % 2 in
        subst (λ k. AreAt k parts) (omega arith) (joined place s (parts_from n (suc place) rest) parts (λ others is. subst (λ k. AreAt k others) (omega arith) (later n others is)) found)

-- an offset before others, if a part is a member
unfoldable listed_at : Option (List ℕ) → ℕ → List ℕ → List ℕ
listed_at None place places = places
listed_at (Some bytes) place places = place ∷ places

by_part : (names contents : List ℕ) (place : ℕ) (n : MemberName) (members : List StoredMember)
    → map (λ m. m.offset) (cons_option (member_as names place contents n) members) ≡ listed_at (bytes_as n contents) place (map (λ m. m.offset) members)
unfolding listed_at bytes_as
by_part names contents place LinkerMember members = refl
by_part names contents place LongNamesMember members = refl
by_part names contents place (NameAt offset) members = refl
by_part names contents place (Named text) members = refl
by_part names contents place (Special text) members = refl

by_header : (contents : List ℕ) (place : ℕ) (n : Name) (places : List ℕ) → is_known n ≡ true → with_header n place places ≡ listed_at (bytes_by n contents) place places
unfolding listed_at bytes_by is_known with_header
by_header contents place Linker places known = refl
by_header contents place LongNames places known = refl
by_header contents place (LongAt offset) places known = refl
by_header contents place (Short text) places known = refl
by_header contents place Unknown places known = absurd (true≢false (sym known))

offsets_as : (kind : Kind) (names longs : List ℕ) (place : ℕ) (parts : List Part) (ss : List Stored) (reads : List Read) → AreAt place parts → map said_by_part parts ≡ map said ss
    → members_among kind longs ss ≡ Some reads → map (λ m. m.offset) (filter_map (member_of names) parts) ≡ headers_among place ss
unfolding members_among headers_among AreAt
offsets_as kind names longs place [] [] reads at same is = refl
offsets_as kind names longs place [] (s ∷ ss) reads at same is = cc
offsets_as kind names longs place (p ∷ parts) [] reads at same is = cc
offsets_as kind names longs place (p ∷ parts) (s ∷ ss) reads at same is =
    let first : said_by_part p ≡ said s = cc in
    let rest : map said_by_part parts ≡ map said ss = cc in
    let name : p.name ≡ member_name s.field = ap (λ x. x.0) first in
    let contents : p.contents ≡ s.contents = ap (λ x. x.1) first in
    let one = step kind longs (name_in s.field) s.contents (members_among kind longs ss) reads is in
    let next = place + (60 + length s.contents + length s.contents % 2) in
    let others = filter_map (member_of names) parts in
    let places = map (λ m. m.offset) others in
    let later : places ≡ headers_among next ss =
    offsets_as kind names longs next parts ss one.later (subst (λ c. AreAt (place + (60 + length c + length c % 2)) parts) contents at.1) rest one.rest in
    by_part names p.contents p.offset p.name others
    ∙ ap (λ o. listed_at (bytes_as p.name p.contents) o places) at.0
    ∙ ap (λ n. listed_at (bytes_as n p.contents) place places) name
    ∙ ap (λ c. listed_at (bytes_as (member_name s.field) c) place places) contents
    ∙ ap (λ b. listed_at b place places) (same_bytes s.field s.contents one.known)
    ∙ ap (listed_at (bytes_by (name_in s.field) s.contents) place) later
    ∙ sym (by_header s.contents place (name_in s.field) (headers_among next ss) one.known)

-- The first member that declares a symbol is the first that lists it.

turned : (x s : List ℕ) → bytes_eq x s ≡ bytes_eq s x
turned x s = by (bytes_eq x s) (bytes_eq s x) refl refl
  where
    by : (a b : Bool) → bytes_eq x s ≡ a → bytes_eq s x ≡ b → a ≡ b
    by true true first second = refl
    by false false first second = refl
    by true false first second = absurd (true≢false (sym ((bytes_eq-Decides s x).1 (sym ((bytes_eq-Decides x s).0 first))) ∙ second))
    by false true first second = absurd (true≢false (sym ((bytes_eq-Decides x s).1 (sym ((bytes_eq-Decides s x).0 second))) ∙ first))

declares : (offset : ℕ) (symbols : List (List ℕ)) (s : List ℕ) → offset_if_listed offset symbols s ≡ (if list_any (bytes_eq s) symbols then Some offset else None)
declares offset [] s = refl
declares offset (x ∷ symbols) s =
    ap (λ b. option_or (if b then Some offset else None) (offset_if_listed offset symbols s)) (turned x s) ∙ by (bytes_eq s x) (declares offset symbols s)
  where
    by : (b : Bool) → offset_if_listed offset symbols s ≡ (if list_any (bytes_eq s) symbols then Some offset else None)
        → option_or (if b then Some offset else None) (offset_if_listed offset symbols s) ≡ (if b || list_any (bytes_eq s) symbols then Some offset else None)
    by true rest = refl
    by false rest = rest

declarer_as : (found : List StoredMember) (members : List MemberView) → map (λ m. declared_by_found (file_found m.bytes)) found ≡ map (λ m. m.symbols) members → (s : List ℕ)
    → first_declarer found s ≡ option_map (λ f. f.0) (first_lister (map (λ m. m.offset) found) members s)
declarer_as [] [] same s = refl
declarer_as [] (m ∷ members) same s = refl
declarer_as (x ∷ found) [] same s = cc
declarer_as (x ∷ found) (m ∷ members) same s =
    let first : declared_by_found (file_found x.bytes) ≡ m.symbols = cc in
    let rest : map (λ m. declared_by_found (file_found m.bytes)) found ≡ map (λ m. m.symbols) members = cc in
    ap (λ symbols. option_or (offset_if_listed x.offset symbols s) (first_declarer found s)) first
    ∙ ap (λ o. option_or o (first_declarer found s)) (declares x.offset m.symbols s)
    ∙ by (list_any (bytes_eq s) m.symbols) (declarer_as found members rest s)
  where
    by : (b : Bool) → first_declarer found s ≡ option_map (λ f. f.0) (first_lister (map (λ m. m.offset) found) members s)
        → option_or (if b then Some x.offset else None) (first_declarer found s) ≡ option_map (λ f. f.0) (if b then Some (x.offset, m) else first_lister (map (λ m. m.offset) found) members s)
    by true later = refl
    by false later = later

-- The first linker member is the first part.

first_named : member_name (field 16 (codes "/")) ≡ LinkerMember
unfolding member_name field trimmed
first_named = refl

linker_by : (parts : List Part) (contents : List ℕ) (rest : List Stored) → map said_by_part parts ≡ map said (stored (codes "/") contents ∷ rest) → linker_member 0 parts ≡ Some contents
linker_by [] contents rest same = cc
linker_by (p ∷ parts) contents rest same =
    let first : said_by_part p ≡ said (stored (codes "/") contents) = cc in
    let name : p.name ≡ LinkerMember = ap (λ x. x.0) first ∙ first_named in
    ap (λ n. if is_linker n then (if 0 == 0 then Some p.contents else linker_member (0 - 1) parts) else linker_member 0 parts) name
    ∙ ap (λ x. Some x.1) first

-- the linker member, and the parts after it
record FirstPart (kind : Kind) (members : List MemberView) : Type 0 where
  rest : List Stored
  is : parts_of kind members ≡ stored (codes "/") (padded 0 (first_linker (places_of kind members) (entries_of kind members))) ∷ rest

gnu_first : (members : List MemberView) → nat_lt 0 (length (entries_of Gnu members)) ≡ true
    → parts_of Gnu members
    ≡ stored (codes "/") (padded 0 (first_linker (places_of Gnu members) (entries_of Gnu members)))
    ∷ (stored_names (names_bytes Gnu (long_names Gnu members)) ++ map (stored_member (long_names Gnu members)) members)
unfolding parts_of stored_linkers
gnu_first members some =
    let names = long_names Gnu members in
    let contents = padded 0 (first_linker (places_of Gnu members) (entries_of Gnu members)) in
    ap (λ b. (if b then stored (codes "/") contents ∷ [] else []) ++ stored_names (names_bytes Gnu names) ++ map (stored_member names) members) some

first_part : (kind : Kind) (members : List MemberView) → nat_lt 0 (length (entries_of Gnu members)) ≡ true → FirstPart kind members
unfolding parts_of stored_linkers
first_part Coff members some = record { rest = _; is = refl }
first_part Gnu members some =
    record { rest = _; is = gnu_first members some }

-- what `implib_archive`'s reader has of it
index_found : (bytes contents : List ℕ) (rest : List Stored) → stored_in bytes ≡ Some (stored (codes "/") contents ∷ rest) → first_in bytes ≡ Some (first_data contents)
unfolding first_in linker_in linker_data
index_found bytes contents rest found =
    ap (λ o. option_map first_data (option_and_then (λ parts. option_and_then (λ s. linker_data (name_in s.field) s.contents) (slice_get parts 0)) o)) found
    ∙ ap (λ n. option_map first_data (linker_data n contents)) linker_named

-- The index leads each symbol to the first member that declares it.

parts_placed : (bytes : List ℕ) (parts : List Part) → parts_in bytes ≡ Some parts → AreAt 8 parts
unfolding parts_in
parts_placed bytes parts is = by (bytes_eq (take 8 bytes) (codes "!<arch>\n")) is
  where
    by : (b : Bool) → (if b then parts_from 0 8 (drop 8 bytes) else None) ≡ Some parts → AreAt 8 parts
    by true found = parts_at 0 8 (drop 8 bytes) parts found
    by false found = cc

headers_are : (bytes : List ℕ) (ss : List Stored) (headers : List ℕ) → stored_in bytes ≡ Some ss → headers_in bytes ≡ Some headers → headers_among 8 ss ≡ headers
unfolding headers_in
headers_are bytes ss headers there found = same_Some _ _ (sym (ap (option_map (headers_among 8)) there) ∙ found)

looked_up : (bytes s : List ℕ) (index : List (List ℕ × ℕ)) → first_in bytes ≡ Some index → header_for bytes s ≡ lookup (bytes_eq s) index
unfolding header_for
looked_up bytes s index found = ap (option_and_then (lookup (bytes_eq s))) found

-- what `implib_archive`'s reader has of the second linker member
second_found : (bytes first second : List ℕ) (rest : List Stored) → stored_in bytes ≡ Some (stored (codes "/") first ∷ stored (codes "/") second ∷ rest) → second_in bytes ≡ Some (second_data second)
unfolding second_in linker_in linker_data
second_found bytes first second rest found =
    ap (λ o. option_map second_data (option_and_then (λ parts. option_and_then (λ s. linker_data (name_in s.field) s.contents) (slice_get parts 1)) o)) found
    ∙ ap (λ n. option_map second_data (linker_data n second)) linker_named

second_by : (parts : List Part) (first second : List ℕ) (rest : List Stored) → map said_by_part parts ≡ map said (stored (codes "/") first ∷ stored (codes "/") second ∷ rest) → linker_member 1 parts ≡ Some second
second_by [] first second rest same = cc
second_by (p ∷ parts) first second rest same =
    let one : said_by_part p ≡ said (stored (codes "/") first) = cc in
    let others : map said_by_part parts ≡ map said (stored (codes "/") second ∷ rest) = cc in
    let name : p.name ≡ LinkerMember = ap (λ x. x.0) one ∙ first_named in
    ap (λ n. if is_linker n then (if 1 == 0 then Some p.contents else linker_member (1 - 1) parts) else linker_member 1 parts) name
    ∙ linker_by parts second rest others

second_looked_up : (bytes s : List ℕ) (second : List ℕ × List (List ℕ × ℕ)) → second_in bytes ≡ Some second → second_header_for bytes s ≡ option_and_then (numbered second.0) (lookup (bytes_eq s) second.1)
unfolding second_header_for
second_looked_up bytes s second found = ap (option_and_then (λ second. option_and_then (numbered second.0) (lookup (bytes_eq s) second.1))) found

coff_leads : (members : List MemberView) → refusal_of Coff members ≡ None → (a : Archive) → map said_by_part a.parts ≡ map said (parts_of Coff members)
    → ((s : List ℕ) → first_declarer a.members s ≡ header_for (archive_of Coff members) s) → (others : List ℕ) → linker_member 1 a.parts ≡ Some others → second_misleads a.members others ≡ Some []
unfolding parts_of stored_linkers
coff_leads members accepted a same declarer others there =
    let bytes = archive_of Coff members in
    let places = places_of Coff members in
    let entries = entries_of Coff members in
    let sorted = sorted_entries entries in
    let first = padded 0 (first_linker places entries) in
    let linker = second_linker places sorted in
    let second = padded 0 linker in
    let is : second ≡ others = same_Some _ _ (sym (second_by a.parts first second _ same) ∙ there) in
    let parts = accepted_parts Coff members accepted in
    let few = few_if_coff Coff members parts.few refl in
    let many = length-places (first_place Coff members) members in
    let fits = front_fits Coff members accepted in
    let as_many = (sorted_as_many members).0 in
    let each = each_sorted (λ k. (0 < k) × (k ≤ length places)) entries (subst (λ n. Each (λ k. (0 < k) × (k ≤ n)) entries) (sym many) (each_entry Coff members)) in
    let small = each_sorted (λ k. k < 2 ^ 16) entries (each_weaker (λ k. (0 < k) × (k ≤ length members)) (λ k. k < 2 ^ 16) (λ k h. omega (arith, h.1, few)) entries (each_entry Coff members)) in
    let has = second_there places sorted (padding 0 (length linker)) (omega (arith, many, few)) (omega (arith, as_many, fits.short)) each small in
    let found = second_found bytes first second _ (parts_read_back Coff members accepted) in
    let leads = each_second_leads members accepted in
    let offset : ℕ → ℕ = λ n. unwrap_or (offset_numbered has.index.offsets n) 0 in
    let mapped = map (with_offset has.index.offsets) has.index.entries in
    let looked : (s : List ℕ) → first_declarer a.members s ≡ lookup (bytes_eq s) (map pair_of mapped) = λ s.
    declarer s
    ∙ sym (leads.same s)
    ∙ second_looked_up bytes s (second_data second) found
    ∙ has.leads s
    ∙ sym (lookup_mapped s offset (second_data second).1)
    ∙ ap (λ es. lookup (bytes_eq s) (map (λ e. (e.0, offset e.1)) es)) (sym has.same)
    ∙ ap (lookup (bytes_eq s)) (map_twice (λ (e : List ℕ × ℕ). (e.0, offset e.1)) pair_of has.index.entries ∙ sym (map_twice pair_of (with_offset has.index.offsets) has.index.entries)) in
    ap (second_misleads a.members) (sym is)
    ∙ ap (option_map (λ i. misleading a.members (map (with_offset i.offsets) i.entries))) has.is
    ∙ ap Some (none_misleads (first_declarer a.members) mapped looked)

-- In GNU's kind there is no second.

long_named : member_name (field 16 (codes "//")) ≡ LongNamesMember
unfolding member_name field trimmed
long_named = refl

not_linker : (n : MemberName) (contents : List ℕ) → bytes_as n contents ≡ Some contents → is_linker n ≡ false
unfolding bytes_as
not_linker LinkerMember contents is = cc
not_linker LongNamesMember contents is = refl
not_linker (NameAt offset) contents is = refl
not_linker (Named text) contents is = refl
not_linker (Special text) contents is = refl

named_no_linker : (kind : Kind) (data' field' name : List ℕ) → HasName kind data' field' name → is_linker (member_name field') ≡ false
unfolding is_known bytes_by
named_no_linker kind data' field' name (inl short) =
    not_linker (member_name field') [] (same_bytes field' [] (ap is_known short) ∙ ap (λ n. bytes_by n []) short)
named_no_linker kind data' field' name (inr long) =
    not_linker (member_name field') [] (same_bytes field' [] (ap is_known long.at) ∙ ap (λ n. bytes_by n []) long.at)

NoLinkers : List Stored → Type 0
NoLinkers ss = AllByRecursion (λ s. is_linker (member_name s.field) ≡ false) ss

none_linker : (parts : List Part) (ss : List Stored) → map said_by_part parts ≡ map said ss → NoLinkers ss → linker_member 0 parts ≡ None
unfolding NoLinkers
none_linker [] ss same none = refl
none_linker (p ∷ parts) [] same none = cc
none_linker (p ∷ parts) (s ∷ ss) same none =
    let one : said_by_part p ≡ said s = cc in
    let others : map said_by_part parts ≡ map said ss = cc in
    let name : p.name ≡ member_name s.field = ap (λ x. x.0) one in
    ap (λ n. if is_linker n then (if 0 == 0 then Some p.contents else linker_member (0 - 1) parts) else linker_member 0 parts) name
    ∙ ap (λ b. if b then (if 0 == 0 then Some p.contents else linker_member (0 - 1) parts) else linker_member 0 parts) none.0
    ∙ none_linker parts ss others none.1

members_no_linkers : (kind : Kind) (data' : List ℕ) (names : List (List ℕ × ℕ)) (members : List MemberView) → HaveNames kind data' names members → NoLinkers (map (stored_member names) members)
unfolding NoLinkers
members_no_linkers kind data' names [] named = tt
members_no_linkers kind data' names (m ∷ members) named =
    (named_no_linker kind data' (field 16 (name_field names m.name)) m.name named.0, members_no_linkers kind data' names members named.1)

names_no_linkers : (text : List ℕ) (ss : List Stored) → NoLinkers ss → NoLinkers (stored_names text ++ ss)
unfolding NoLinkers stored_names
names_no_linkers text ss none = by (nat_lt 0 (length text))
  where
    by : (b : Bool) → NoLinkers ((if b then stored (codes "//") (padded 10 text) ∷ [] else []) ++ ss)
    by true = (ap is_linker long_named, none)
    by false = none

gnu_leads : (members : List MemberView) → refusal_of Gnu members ≡ None → nat_lt 0 (length (entries_of Gnu members)) ≡ true → (a : Archive) → map said_by_part a.parts ≡ map said (parts_of Gnu members)
    → (others : List ℕ) → linker_member 1 a.parts ≡ Some others → second_misleads a.members others ≡ Some []
gnu_leads members accepted some a same others there =
    let names = long_names Gnu members in
    let text = names_bytes Gnu names in
    let first = gnu_first members some in
    let none = names_no_linkers text (map (stored_member names) members) (members_no_linkers Gnu (text ++ []) names members (archive_named Gnu members [] accepted)) in
    absurd (by a.parts (padded 0 (first_linker (places_of Gnu members) (entries_of Gnu members))) (stored_names text ++ map (stored_member names) members) (same ∙ ap (map said) first) none there)
  where
    by : (parts : List Part) (contents : List ℕ) (rest : List Stored) → map said_by_part parts ≡ map said (stored (codes "/") contents ∷ rest) → NoLinkers rest → linker_member 1 parts ≡ Some others → ⊥
    by [] contents rest same none there = cc
    by (p ∷ parts) contents rest same none there =
        let one : said_by_part p ≡ said (stored (codes "/") contents) = cc in
        let more : map said_by_part parts ≡ map said rest = cc in
        let name : p.name ≡ LinkerMember = ap (λ x. x.0) one ∙ first_named in
        let is : linker_member 1 (p ∷ parts) ≡ None =
        ap (λ n. if is_linker n then (if 1 == 0 then Some p.contents else linker_member (1 - 1) parts) else linker_member 1 parts) name ∙ none_linker parts rest more none in
        let no : None ≡ Some others = sym is ∙ there in
        cc

second_leads : (kind : Kind) (members : List MemberView) → refusal_of kind members ≡ None → nat_lt 0 (length (entries_of Gnu members)) ≡ true → (a : Archive) → map said_by_part a.parts ≡ map said (parts_of kind members)
    → ((s : List ℕ) → first_declarer a.members s ≡ header_for (archive_of kind members) s) → (others : List ℕ) → linker_member 1 a.parts ≡ Some others → second_misleads a.members others ≡ Some []
second_leads Coff members accepted some a same declarer others there = coff_leads members accepted a same declarer others there
second_leads Gnu members accepted some a same declarer others there = gnu_leads members accepted some a same others there

pub archive_leads : SameParts → (kind : Kind) (members : List MemberView) → refusal_of kind members ≡ None → nat_lt 0 (length (entries_of Gnu members)) ≡ true
    → (a : Archive) → archive_in (archive_of kind members) ≡ Some a → map (λ m. declared_by_found (file_found m.bytes)) a.members ≡ map (λ m. m.symbols) members → IndexesLead a
unfolding archive_in
archive_leads same kind members accepted some a there declared =
    let bytes = archive_of kind members in
    let ss = parts_of kind members in
    let stored_there = parts_read_back kind members accepted in
    let both = found_by bytes ss (parts_in bytes) refl (same bytes ss stored_there) in
    let whole : archive_of_parts both.found ≡ a = same_Some _ _ (sym (ap (option_map archive_of_parts) both.is) ∙ there) in
    let parts : both.found ≡ a.parts = ap (λ x. x.parts) whole in
    let offsets : map (λ m. m.offset) a.members ≡ headers_among 8 ss =
    sym (ap (λ x. map (λ m. m.offset) x.members) whole)
    ∙ offsets_as kind (long_names_in both.found) (long_names_stored ss) 8 both.found ss (map read_view members) (parts_placed bytes both.found both.is) both.same (members_found kind members accepted) in
    let index = each_index_leads kind members accepted in
    let headers : map (λ m. m.offset) a.members ≡ index.headers = offsets ∙ headers_are bytes ss index.headers stored_there index.found in
    let entries = entries_of kind members in
    let linker = first_linker (places_of kind members) entries in
    let contents = padded 0 linker in
    let first = first_part kind members some in
    let fits = front_fits kind members accepted in
    let read = index_there (places_of kind members) entries (padding 0 (length linker)) (omega (arith, fits.short)) in
    let found = index_found bytes contents first.rest (stored_there ∙ ap Some first.is) in
    let declarer : (s : List ℕ) → first_declarer a.members s ≡ header_for bytes s = λ s.
    declarer_as a.members members declared s
    ∙ ap (λ places. option_map (λ f. f.0) (first_lister places members s)) headers
    ∙ sym (index.leads s) in
    let leads : (s : List ℕ) → first_declarer a.members s ≡ lookup (bytes_eq s) (map pair_of read.entries) = λ s.
    declarer s
    ∙ looked_up bytes s (first_data contents) found
    ∙ ap (lookup (bytes_eq s)) (sym read.same) in
    record {
      contents = contents;
      first = ap (linker_member 0) (sym parts) ∙ linker_by both.found contents first.rest (both.same ∙ ap (map said) first.is);
      leads = ap (option_map (misleading a.members)) read.is ∙ ap Some (none_misleads (first_declarer a.members) read.entries leads);
      second_leads = second_leads kind members accepted some a (ap (map said_by_part) (sym parts) ∙ both.same) declarer;
    }

-- Libraries of definitions.

pub library_leads : SameParts → OwnMembersFound → SameShortImports → SameObjects → OwnIndexesLead
library_leads parts own imports objects definition options file a is there =
    let made = is.members_for in
    let members = is.members in
    let kind = kind_of options.flavor members in
    let contents = map (λ (m : MemberView). m.bytes) members in
    let archive_there : archive_in (archive_of kind members) ≡ Some a = sym (ap archive_in is.is) ∙ there in
    let bytes : map (λ m. m.bytes) a.members ≡ contents =
    same_Some _ _ (sym (ap (option_map (λ (x : Archive). map (λ m. m.bytes) x.members)) archive_there) ∙ own kind members is.accepted) in
    let listed = symbols_listed imports objects options.naming made.definition options.machine options.flavor members made.made_for
    (plain_of (definition_text definition) options made.definition made.of_text) made.library_reads in
    let declared : map (λ m. declared_by_found (file_found m.bytes)) a.members ≡ map (λ (m : MemberView). m.symbols) members =
    sym (map_twice (λ b. declared_by_found (file_found b)) (λ (m : StoredMember). m.bytes) a.members)
    ∙ ap (map (λ b. declared_by_found (file_found b))) bytes
    ∙ map_twice (λ b. declared_by_found (file_found b)) (λ (m : MemberView). m.bytes) members
    ∙ listed.declared in
    archive_leads parts kind members is.accepted listed.some a archive_there declared
