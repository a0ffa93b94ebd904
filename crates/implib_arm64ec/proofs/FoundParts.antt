-- A reader finds the parts of a library's archive, and its members.
use Rattle.std.proofs.Common.{rules, ◌≡◌, ℕ, ◌+◌, ◌%◌, ◌^◌, ◌<◌, Bool, true, false, List, [], ◌∷◌, ◌++◌, Some, bytes_eq, codes, flat_map, if◌then◌else◌, length, map, nat_lt, option_and_then, unwrap_or, refl, sym, ap, ◌∙◌, append_assoc, arith}
use Rattle.std.specs.Option.{option_map}
use Rattle.std.proofs.lemmas.Slice.Eq.{bytes_eq-Decides}
use Rattle.implib.specs.Members.MemberSpec.{MemberView}
use Rattle.implib_archive.specs.Archive.{first_linker, first_linker_size, front, linkers, member_part, name_field, names_bytes, names_part, names_size, offset_of, places_from, second_linker, second_linker_size, sorted_entries}
use Rattle.implib_archive.specs.Leads.{with_header}
use Rattle.implib_archive.specs.Parts.{field, padding, part_size, signature}
use Rattle.implib_archive.specs.ReadBack.{AreLaidOut, padded, read_view, stored, stored_linkers, stored_member, stored_names}
use Rattle.implib_archive.specs.Reader.{Read, Stored, Unknown, long_name_at, long_names_in, long_names_or, member_at, members_among, name_in, number_in, stored_from, stored_in, trimmed}
use Rattle.implib_archive.specs.declared.kind.Kind.TheVariants.{Coff}
use Rattle.implib_archive.proofs.FoundMembers.{among_members, archive_named, names_found, names_past_linkers, none_among, past_linkers, past_names}
use Rattle.implib_archive.proofs.FoundNames.{HasName, HaveNames, linker_named, long_names_named}
use Rattle.implib_archive.proofs.LaidOut.{laid_out}
use Rattle.implib_archive.proofs.Leading.{at_header, by_name, member_header, padded_size}
use Rattle.implib_archive.proofs.Numbered.{sorted_as_many}
use Rattle.implib_archive.proofs.Readings.{linker_parts, named_parts, stored_members, stored_padded}
use Rattle.implib_archive.proofs.Sized.{length-first_linker, length-second_linker}
use Rattle.implib_archive.proofs.Whole.{length-places, members_short, offset_below, sum_first}
use Rattle.implib_arm64ec.specs.Archive.{arm64_entries, ec_archive, ec_entries, ec_front, ec_index, ec_label, ec_members, ec_part, first_member_place, library_names, member_places}
use Rattle.implib_arm64ec.specs.ArchiveLaws.{EachIsReadBack, ec_parts}
use Rattle.implib_arm64ec.specs.ArchiveReader.{ec_headers_among, ec_headers_in, ec_members_in, is_ec_index, without_ec_index}
use Rattle.implib_arm64ec.specs.Library.{LibraryView, for_arm64}
use Rattle.implib_arm64ec.proofs.Accepted.{Accepted, accepted_library, ec_fits, ec_short, length-ec_index, linkers_fit, names_short}
use Rattle.implib_arm64ec.proofs.Alike.{none_for_arm64, same_read}

-- The EC index is told from the other parts by its name.

abbrev ec_field : List ℕ
ec_field = codes "/<ECSYMBOLS>/   "

ec_named : field 16 (codes "/<ECSYMBOLS>/") ≡ ec_field
unfolding field
ec_named = refl

ec_unknown : name_in ec_field ≡ Unknown
unfolding name_in trimmed number_in long_name_at
ec_unknown = refl

pub ec_found : (contents : List ℕ) → is_ec_index (stored (codes "/<ECSYMBOLS>/") contents) ≡ true
unfolding field
ec_found contents = refl

pub linker_other : (contents : List ℕ) → is_ec_index (stored (codes "/") contents) ≡ false
unfolding field
linker_other contents = refl

pub names_other : (contents : List ℕ) → is_ec_index (stored (codes "//") contents) ≡ false
unfolding field
names_other contents = refl

other_name : (data' field' name : List ℕ) → HasName Coff data' field' name → bytes_eq field' ec_field ≡ false
other_name data' field' name named = grind (arith, bytes_eq-Decides, ec_unknown)

-- The parts.

module _ (l : LibraryView) (a : Accepted l) where
  pub parts_found : stored_in (ec_archive l) ≡ Some (ec_parts l)
  unfolding stored_in ec_archive ec_front ec_members ec_part ec_parts ec_label front signature
  parts_found =
      let members = for_arm64 l in
      let names = library_names l in
      let text = names_bytes Coff names in
      let places = member_places l in
      let entries = arm64_entries l in
      let data' = ec_index (ec_entries l) in
      let near : (name : List ℕ) → unwrap_or (offset_of names name) 0 < 2 ^ 32 = λ name. omega (arith, names_short l a, offset_below Coff members name) in
      let parts = flat_map (member_part names) members in
      let index = ec_part (ec_entries l) in
      let last = stored_members names near members (members_short Coff members (none_for_arm64 l a.none)) in
      let indexed = stored_padded ec_label 0 data' parts ec_fits (omega (arith, ec_short l a, length-ec_index (ec_entries l)))
      ∙ ap (option_map (λ others. stored (codes "/<ECSYMBOLS>/") (padded 0 data') ∷ others)) last in
      let behind = stored (codes "/<ECSYMBOLS>/") (padded 0 data') ∷ map (stored_member names) members in
      let named = named_parts text (index ++ parts) behind (names_short l a) indexed in
      ap (stored_from 0) (append_assoc (linkers Coff places entries ++ names_part text) index parts ∙ append_assoc (linkers Coff places entries) (names_part text) (index ++ parts))
      ∙ linker_parts Coff places entries (names_part text ++ (index ++ parts)) (stored_names text ++ behind) (linkers_fit l a) named

  -- The long names are found behind the linker members.

  names_there : HaveNames Coff (padded 10 (names_bytes Coff (library_names l))) (library_names l) (for_arm64 l)
  names_there = archive_named Coff (for_arm64 l) (padding 10 (length (names_bytes Coff (library_names l)))) a.ordinary

  pub names_read : long_names_in (ec_parts l) ≡ padded 10 (names_bytes Coff (library_names l))
  unfolding ec_parts long_names_in long_names_or
  names_read = grind (arith, ec_named, ec_unknown, none_among, names_there, names_past_linkers, names_found)

-- The parts but for the EC index.

without_members : (data' : List ℕ) (names : List (List ℕ × ℕ)) (members : List MemberView) → HaveNames Coff data' names members
    → without_ec_index (map (stored_member names) members) ≡ map (stored_member names) members
unfolding without_ec_index
without_members data' names [] named = refl
without_members data' names (m ∷ members) named = grind (arith, without_members data' names members named.1, other_name data' (field 16 (name_field names m.name)) m.name named.0)

without_other : (s : Stored) (parts : List Stored) → is_ec_index s ≡ false → without_ec_index (s ∷ parts) ≡ s ∷ without_ec_index parts
unfolding without_ec_index
without_other s parts other = ap (λ b. if b then without_ec_index parts else s ∷ without_ec_index parts) other

without_names : (text : List ℕ) (parts : List Stored) → without_ec_index (stored_names text ++ parts) ≡ stored_names text ++ without_ec_index parts
unfolding stored_names
without_names text parts = by_test (nat_lt 0 (length text))
  where
    by_test : (b : Bool) → without_ec_index ((if b then stored (codes "//") (padded 10 text) ∷ [] else []) ++ parts) ≡ (if b then stored (codes "//") (padded 10 text) ∷ [] else []) ++ without_ec_index parts
    by_test true = without_other (stored (codes "//") (padded 10 text)) parts (names_other (padded 10 text))
    by_test false = refl

without_linkers : (places : List ℕ) (entries : List (List ℕ × ℕ)) (parts : List Stored) → without_ec_index (stored_linkers Coff places entries ++ parts) ≡ stored_linkers Coff places entries ++ without_ec_index parts
unfolding stored_linkers
without_linkers places entries parts = search (rules, without_other, linker_other)

without_index : (contents : List ℕ) (parts : List Stored) → without_ec_index (stored (codes "/<ECSYMBOLS>/") contents ∷ parts) ≡ without_ec_index parts
unfolding without_ec_index
without_index contents parts = grind (arith, ec_found contents)

module _ (l : LibraryView) (a : Accepted l) where
  pub members_there : members_among Coff (long_names_in (ec_parts l)) (without_ec_index (ec_parts l)) ≡ Some (map read_view (for_arm64 l))
  unfolding ec_parts
  members_there = grind (arith, without_linkers, without_names, without_index, without_members, names_there, names_read, past_linkers, past_names, among_members)

pub each_is_read_back : EachIsReadBack
unfolding ec_members_in
each_is_read_back l accepted =
    let a = accepted_library l accepted in
    let parts = parts_found l a in
    let laid = laid_out (ec_archive l) (ec_parts l) parts in
    record {
      signed = laid.0;
      parts = parts;
      laid_out = laid.1;
      in_order = ap (option_and_then (λ parts. members_among Coff (long_names_in parts) (without_ec_index parts))) parts ∙ (members_there l a ∙ ap (λ t. Some t) (same_read l));
    }

-- The headers of members.

past_index : (place : ℕ) (contents : List ℕ) (parts : List Stored) → ec_headers_among place (stored (codes "/<ECSYMBOLS>/") (padded 0 contents) ∷ parts) ≡ ec_headers_among (place + part_size (length contents)) parts
unfolding ec_headers_among
past_index place contents parts = grind (arith, ec_found (stored (codes "/<ECSYMBOLS>/") (padded 0 contents)).contents, padded_size 0 contents place)

after_linker : (place : ℕ) (contents : List ℕ) (parts : List Stored) → ec_headers_among place (stored (codes "/") (padded 0 contents) ∷ parts) ≡ ec_headers_among (place + part_size (length contents)) parts
unfolding ec_headers_among with_header
after_linker place contents parts = search (rules, linker_other, linker_named, padded_size)

after_names : (place : ℕ) (text : List ℕ) (parts : List Stored) → ec_headers_among place (stored_names text ++ parts) ≡ ec_headers_among (place + names_size (length text)) parts
unfolding stored_names names_size ec_headers_among with_header
after_names place text parts = by_test (nat_lt 0 (length text))
  where
    by_test : (b : Bool) → ec_headers_among place ((if b then stored (codes "//") (padded 10 text) ∷ [] else []) ++ parts) ≡ ec_headers_among (place + (if b then part_size (length text) else 0)) parts
    by_test true = search (rules, names_other, long_names_named, padded_size)
    by_test false = ap (λ n. ec_headers_among n parts) (omega arith)

member_headers : (data' : List ℕ) (names : List (List ℕ × ℕ)) (place : ℕ) (members : List MemberView) → HaveNames Coff data' names members → ec_headers_among place (map (stored_member names) members) ≡ places_from place members
unfolding ec_headers_among places_from
member_headers data' names place [] named = refl
member_headers data' names place (m ∷ members) named =
    let field' = field 16 (name_field names m.name) in
    let next = place + (60 + length m.bytes + length m.bytes % 2) in
    let same : next ≡ place + part_size (length m.bytes) = omega arith in
    let others = ec_headers_among next (map (stored_member names) members) in
    ap (λ b. if b then others else with_header (name_in field') place others) (other_name data' field' m.name named.0)
    ∙ (member_header Coff data' field' m.name place others named.0
    ∙ ap (λ t. place ∷ t) (ap (λ n. ec_headers_among n (map (stored_member names) members)) same ∙ member_headers data' names (place + part_size (length m.bytes)) members named.1))

module _ (l : LibraryView) (a : Accepted l) where
  pub headers_of_parts : ec_headers_among 8 (ec_parts l) ≡ member_places l
  unfolding ec_parts stored_linkers first_linker_size second_linker_size
  headers_of_parts =
      let names = library_names l in
      let text = names_bytes Coff names in
      let places = member_places l in
      let entries = arm64_entries l in
      let data' = ec_index (ec_entries l) in
      let one = first_linker places entries in
      let two = second_linker places (sorted_entries entries) in
      let members = map (stored_member names) (for_arm64 l) in
      let behind = stored (codes "/<ECSYMBOLS>/") (padded 0 data') ∷ members in
      let after_one = 8 + part_size (length one) in
      let after_two = after_one + part_size (length two) in
      let after_text = after_two + names_size (length text) in
      let many = sorted_as_many (for_arm64 l) in
      let sum : after_text + part_size (length data') ≡ first_member_place l = grind (arith, sum_first, length-first_linker, length-second_linker, length-places) in
      after_linker 8 one (stored (codes "/") (padded 0 two) ∷ (stored_names text ++ behind))
      ∙ (after_linker after_one two (stored_names text ++ behind)
      ∙ (after_names after_two text behind
      ∙ (past_index after_text data' members
      ∙ (ap (λ n. ec_headers_among n members) sum ∙ member_headers (padded 10 text) names (first_member_place l) (for_arm64 l) (names_there l a)))))

  pub headers_found : ec_headers_in (ec_archive l) ≡ Some (member_places l)
  unfolding ec_headers_in
  headers_found = ap (option_map (ec_headers_among 8)) (parts_found l a) ∙ ap (λ t. Some t) headers_of_parts

-- After each header of a member it is read.
module _ (bytes : List ℕ) (all : List Stored) (found : stored_in bytes ≡ Some all) where
  pub headers_read : (place : ℕ) (parts : List Stored) (reads : List Read) → AreLaidOut bytes place parts → members_among Coff (long_names_in all) (without_ec_index parts) ≡ Some reads
      → map (member_at Coff bytes) (ec_headers_among place parts) ≡ map (λ r. Some r) reads
  unfolding AreLaidOut ec_headers_among members_among without_ec_index
  headers_read place [] reads laid is = let none : reads ≡ [] = cc in sym (ap (map (λ r. Some r)) none)
  headers_read place (s ∷ parts) reads laid is = grind (arith, by_test (is_ec_index s) (λ more. headers_read (place + (60 + length s.contents + length s.contents % 2)) parts more laid.1) is)
    where
      by_test : (b : Bool)
          → ((more : List Read) → members_among Coff (long_names_in all) (without_ec_index parts) ≡ Some more
          → map (member_at Coff bytes) (ec_headers_among (place + (60 + length s.contents + length s.contents % 2)) parts) ≡ map (λ r. Some r) more)
          → members_among Coff (long_names_in all) (if b then without_ec_index parts else s ∷ without_ec_index parts) ≡ Some reads
          → map (member_at Coff bytes) (if b then ec_headers_among (place + (60 + length s.contents + length s.contents % 2)) parts
          else with_header (name_in s.field) place (ec_headers_among (place + (60 + length s.contents + length s.contents % 2)) parts)) ≡ map (λ r. Some r) reads
      by_test true rest same = rest reads same
      by_test false rest same = search (rules, by_name, at_header)
