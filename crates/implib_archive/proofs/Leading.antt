-- The indexes of an archive lead to its members.
use Rattle.std.proofs.Common.{rules, ◌≡◌, ℕ, zero, suc, ◌+◌, ◌-◌, ◌%◌, ◌^◌, ◌<◌, ◌≤◌, Bool, true, false, inl, inr, List, [], ◌∷◌, ◌++◌, Option, Some, None, bytes_eq, codes, fold, get_or, if◌then◌else◌, is_some, length, map, nat_eq, nat_lt, cond, option_and_then, refl, sym, ap, subst, ◌∙◌, append_assoc, length-append, arith}
use Rattle.std.specs.declared.cmp.Ordering.{Ordering}
use Rattle.std.specs.declared.cmp.Ordering.TheVariants.{Less, Equal, Greater}
use Rattle.std.specs.BTreeMap.{insert_entry}
use Rattle.std.specs.Cmp.Lexicographic.{slice_cmp}
use Rattle.std.specs.List.{AllByRecursion, list_all}
use Rattle.std.specs.Map.{lookup}
use Rattle.std.specs.Option.{option_map}
use Rattle.std.specs.Ordering.{match_ordering, nat_cmp}
use Rattle.std.proofs.lemmas.Bool.{and_parts, ltb-true}
use Rattle.std.proofs.lemmas.Option.{slice_get-get_or}
use Rattle.implib.specs.Members.MemberSpec.{MemberView}
use Rattle.implib_archive.specs.Archive.{archive_of, entries_from, entries_of, first_linker_size, first_place, is_listed, long_names, name_field, names_bytes, names_size, place_of, places_from, places_of, second_linker_size, sorted_entries, strings_of, with_first}
use Rattle.implib_archive.specs.Leads.{EachIndexLeads, EachSecondLeads, first_lister, header_for, headers_among, headers_in, numbered, second_header_for, with_header}
use Rattle.implib_archive.specs.Parts.{field, padding, part_size}
use Rattle.implib_archive.specs.ReadBack.{AreLaidOut, padded, parts_of, read_view, stored, stored_linkers, stored_member, stored_names}
use Rattle.implib_archive.specs.Reader.{Linker, LongAt, LongNames, Name, Read, Short, Stored, Unknown, before_others, long_name, long_names_in, member_at, members_among, name_in, read_as, second_in, stored_at, stored_in}
use Rattle.implib_archive.specs.Refusal.{has_byte, has_short_places, member_refusal, members_refusal, places_refusal, refusal_of, symbol_refusal, symbols_refusal}
use Rattle.implib_archive.specs.declared.error.Fault.TheVariants.{ArchiveTooLong}
use Rattle.implib_archive.specs.declared.kind.Kind.{Kind}
use Rattle.implib_archive.specs.declared.kind.Kind.TheVariants.{Coff, Gnu}
use Rattle.implib_archive.proofs.Distinct.{distinct_of-coff}
use Rattle.implib_archive.proofs.FoundIndex.{AreReadable, AreTexts, header_found, second_found}
use Rattle.implib_archive.proofs.FoundMembers.{archive_named, first_none, members_found, members_read_back, some_none}
use Rattle.implib_archive.proofs.FoundNames.{HasName, HaveNames, linker_named, long_names_named}
use Rattle.implib_archive.proofs.Lookups.{entries_rise, index_lookup, listed_somewhere, lookup_mapped, sorted_lookup}
use Rattle.implib_archive.proofs.Numbered.{Each, each_entry, each_sorted, each_weaker, sorted_as_many}
use Rattle.implib_archive.proofs.Readings.{parts_read_back}
use Rattle.implib_archive.proofs.Sized.{length-first_linker, length-padding, length-second_linker}
use Rattle.implib_archive.proofs.Whole.{accepted_parts, few_if_coff, front_fits, length-places, sum_first}

-- Symbols have no NUL.

symbol_text : (symbol : List ℕ) → symbol_refusal symbol ≡ None → has_byte 0 symbol ≡ false
unfolding symbol_refusal
symbol_text symbol none = grind (arith, first_none, nat_eq)

texts_both : (xs ys : List (List ℕ × ℕ)) → AreTexts xs → AreTexts ys → AreTexts (xs ++ ys)
texts_both [] ys a b = b
texts_both (x ∷ xs) ys a b = (a.0, texts_both xs ys a.1 b)

symbol_texts : (number : ℕ) (symbols : List (List ℕ)) → symbols_refusal symbols ≡ None → AreTexts (map (λ symbol. (symbol, number)) symbols)
unfolding symbols_refusal
symbol_texts number [] none = tt
symbol_texts number (s ∷ symbols) none = grind (arith, symbol_texts number symbols (some_none (symbol_refusal s) (symbols_refusal symbols) none).1, some_none, symbol_text)

entry_texts : (kind : Kind) (number : ℕ) (members : List MemberView) → members_refusal kind members ≡ None → AreTexts (entries_from number members)
unfolding members_refusal member_refusal entries_from
entry_texts kind number [] none = tt
entry_texts kind number (m ∷ members) none = grind (arith, entry_texts kind (number + 1) members (some_none (member_refusal kind m) (members_refusal kind members) none).1, some_none, nat_lt, is_some, texts_both, symbol_texts)

texts_first : (b : Bool) (found : List (List ℕ × ℕ)) (e : List ℕ × ℕ) → AreTexts found → has_byte 0 e.0 ≡ false → AreTexts (if b then found else found ++ e ∷ [])
texts_first true found e all one = all
texts_first false found e all one = texts_both found (e ∷ []) all (one, tt)

texts_firsts : (found entries : List (List ℕ × ℕ)) → AreTexts found → AreTexts entries → AreTexts (fold with_first found entries)
unfolding with_first
texts_firsts found [] all more = all
texts_firsts found (e ∷ entries) all more = texts_firsts (with_first found e) entries (texts_first (is_listed found e.0) found e all more.0) more.1

pub entries_texts : (kind : Kind) (members : List MemberView) → members_refusal kind members ≡ None → AreTexts (entries_of kind members)
unfolding entries_of
entries_texts Gnu members none = entry_texts Gnu 1 members none
entries_texts Coff members none = texts_firsts [] (entries_from 1 members) tt (entry_texts Coff 1 members none)

module _ (k : List ℕ) (v : ℕ) (one : has_byte 0 k ≡ false) where
  texts_ordered : (o : Ordering) (e : List ℕ × ℕ) (entries : List (List ℕ × ℕ)) → AreTexts (e ∷ entries) → AreTexts (insert_entry (slice_cmp nat_cmp) entries k v)
      → AreTexts (match_ordering o ((k, v) ∷ e ∷ entries) ((e.0, v) ∷ entries) (e ∷ insert_entry (slice_cmp nat_cmp) entries k v))
  texts_ordered Less e entries all rest = (one, all)
  texts_ordered Equal e entries all rest = all
  texts_ordered Greater e entries all rest = (all.0, rest)

  texts_inserted : (entries : List (List ℕ × ℕ)) → AreTexts entries → AreTexts (insert_entry (slice_cmp nat_cmp) entries k v)
  texts_inserted [] all = (one, tt)
  texts_inserted (e ∷ entries) all = texts_ordered (slice_cmp nat_cmp k e.0) e entries all (texts_inserted entries all.1)

texts_sorted : (sorted entries : List (List ℕ × ℕ)) → AreTexts sorted → AreTexts entries → AreTexts (fold (λ sorted e. insert_entry (slice_cmp nat_cmp) sorted e.0 e.1) sorted entries)
texts_sorted sorted [] all more = all
texts_sorted sorted (e ∷ entries) all more = texts_sorted (insert_entry (slice_cmp nat_cmp) sorted e.0 e.1) entries (texts_inserted e.0 e.1 more.0 sorted all) more.1

pub sorted_texts : (entries : List (List ℕ × ℕ)) → AreTexts entries → AreTexts (sorted_entries entries)
unfolding sorted_entries
sorted_texts entries all = texts_sorted [] entries tt all

-- Offsets are below 2^32.

near_one : (places : List ℕ) → list_all (λ p. nat_lt p (2 ^ 32)) places ≡ true → AllByRecursion (λ n. n < 2 ^ 32) places
near_one [] all = tt
near_one (p ∷ places) all = grind (arith, near_one places (and_parts (nat_lt p (2 ^ 32)) (list_all (λ p. nat_lt p (2 ^ 32)) places) all).1, and_parts, nat_lt, ltb-true)

pub near_at : (places : List ℕ) (i : ℕ) → AllByRecursion (λ n. n < 2 ^ 32) places → get_or places i 0 < 2 ^ 32
near_at [] i all = omega arith
near_at (p ∷ places) zero all = all.0
near_at (p ∷ places) (suc i) all = near_at places i all.1

pub short_places : (place : ℕ) (members : List MemberView) → places_refusal place members ≡ None → AllByRecursion (λ n. n < 2 ^ 32) (places_from place members)
unfolding places_refusal has_short_places
short_places place members none = grind (arith, near_one, and_parts, nat_lt, by_test)
  where
    by_test : (b : Bool) → (if b then None else Some ArchiveTooLong) ≡ None → b ≡ true
    by_test true e = refl
    by_test false e = absurd (cc)

readable : (kind : Kind) (members : List MemberView) → refusal_of kind members ≡ None → AreReadable kind members
unfolding place_of
readable kind members accepted =
    let parts = accepted_parts kind members accepted in
    let fits = front_fits kind members accepted in
    record {
      few = omega (arith, fits.short);
      near = λ n. near_at (places_of kind members) (n - 1) (short_places (first_place kind members) members parts.near);
      texts = entries_texts kind members parts.none;
    }

-- The headers of members.

module _ (byte : ℕ) (contents : List ℕ) where
  length-padded_data : length (padded byte contents) ≡ length contents + length contents % 2
  length-padded_data = length-append contents (padding byte (length contents)) ∙ ap (λ n. length contents + n) (length-padding byte (length contents))

  pub padded_size : (place : ℕ) → place + (60 + length (padded byte contents) + length (padded byte contents) % 2) ≡ place + part_size (length contents)
  padded_size place = omega (arith, length-padded_data)

after_linker : (place : ℕ) (contents : List ℕ) (parts : List Stored) → headers_among place (stored (codes "/") (padded 0 contents) ∷ parts) ≡ headers_among (place + part_size (length contents)) parts
unfolding headers_among with_header
after_linker place contents parts = search (rules, linker_named, padded_size)

after_linkers : (kind : Kind) (place : ℕ) (members : List MemberView) (parts : List Stored)
    → headers_among place (stored_linkers kind (places_of kind members) (entries_of kind members) ++ parts)
    ≡ headers_among (place + (first_linker_size kind (length (entries_of kind members)) (length (strings_of (entries_of kind members)))
    + second_linker_size kind (length members) (length (entries_of kind members)) (length (strings_of (entries_of kind members))))) parts
unfolding stored_linkers first_linker_size second_linker_size
after_linkers Coff place members parts = grind (arith, sorted_as_many, after_linker, length-first_linker, length-second_linker, length-places)
after_linkers Gnu place members parts = grind (arith, nat_lt, after_linker, length-first_linker)

after_names : (place : ℕ) (text : List ℕ) (parts : List Stored) → headers_among place (stored_names text ++ parts) ≡ headers_among (place + names_size (length text)) parts
unfolding stored_names names_size headers_among with_header
after_names place text parts = by_test (nat_lt 0 (length text))
  where
    by_test : (b : Bool) → headers_among place ((if b then stored (codes "//") (padded 10 text) ∷ [] else []) ++ parts) ≡ headers_among (place + (if b then part_size (length text) else 0)) parts
    by_test true = search (rules, long_names_named, padded_size)
    by_test false = ap (λ n. headers_among n parts) (omega arith)

pub member_header : (kind : Kind) (data' field' name : List ℕ) (place : ℕ) (headers : List ℕ) → HasName kind data' field' name → with_header (name_in field') place headers ≡ place ∷ headers
unfolding with_header
member_header kind data' field' name place headers (inl short) = ap (λ n. with_header n place headers) short
member_header kind data' field' name place headers (inr long) = ap (λ n. with_header n place headers) long.at

member_headers : (kind : Kind) (data' : List ℕ) (names : List (List ℕ × ℕ)) (place : ℕ) (members : List MemberView) → HaveNames kind data' names members → headers_among place (map (stored_member names) members) ≡ places_from place members
unfolding headers_among places_from
member_headers kind data' names place [] named = refl
member_headers kind data' names place (m ∷ members) named =
    let next = place + (60 + length m.bytes + length m.bytes % 2) in
    let same : next ≡ place + part_size (length m.bytes) = omega arith in
    member_header kind data' (field 16 (name_field names m.name)) m.name place (headers_among next (map (stored_member names) members)) named.0
    ∙ ap (λ t. place ∷ t) (ap (λ n. headers_among n (map (stored_member names) members)) same ∙ member_headers kind data' names (place + part_size (length m.bytes)) members named.1)

headers_of_parts : (kind : Kind) (members : List MemberView) → refusal_of kind members ≡ None → headers_among 8 (parts_of kind members) ≡ places_of kind members
unfolding parts_of
headers_of_parts kind members accepted =
    let names = long_names kind members in
    let text = names_bytes kind names in
    let linkers = stored_linkers kind (places_of kind members) (entries_of kind members) in
    let behind = map (stored_member names) members in
    let e = length (entries_of kind members) in
    let s = length (strings_of (entries_of kind members)) in
    let one = first_linker_size kind e s in
    let two = second_linker_size kind (length members) e s in
    ap (headers_among 8) (append_assoc linkers (stored_names text) behind)
    ∙ (after_linkers kind 8 members (stored_names text ++ behind)
    ∙ (after_names (8 + (one + two)) text behind
    ∙ (ap (λ n. headers_among n behind) (omega (arith, sum_first kind members)) ∙ member_headers kind (text ++ []) names (first_place kind members) members (archive_named kind members [] accepted))))

-- the members' headers are where they are meant to be
pub headers_found : (kind : Kind) (members : List MemberView) → refusal_of kind members ≡ None → headers_in (archive_of kind members) ≡ Some (places_of kind members)
unfolding headers_in
headers_found kind members accepted = grind (arith, parts_read_back, headers_of_parts)

-- After each header of a member it is read.

module _ (kind : Kind) (bytes : List ℕ) (all : List Stored) (found : stored_in bytes ≡ Some all) where
  pub at_header : (place : ℕ) (s : Stored) → stored_at bytes place ≡ Some s → member_at kind bytes place ≡ read_as kind (long_names_in all) (name_in s.field) s.contents
  unfolding member_at
  at_header place s is = grind (arith, option_and_then)

  one_header : (place : ℕ) (headers : List ℕ) (read : Read) (contents : List ℕ) (reads : List Read) (others : Option (List Read))
      → member_at kind bytes place ≡ Some read
      → ((more : List Read) → others ≡ Some more → map (member_at kind bytes) headers ≡ map (λ r. Some r) more)
      → option_map (λ more. read ∷ more) others ≡ Some reads → map (member_at kind bytes) (place ∷ headers) ≡ map (λ r. Some r) reads
  one_header place headers read contents reads None at rest is = absurd (cc)
  one_header place headers read contents reads (Some more) at rest is = grind arith

  pub by_name : (place : ℕ) (headers : List ℕ) (n : Name) (contents : List ℕ) (reads : List Read) (others : Option (List Read))
      → member_at kind bytes place ≡ read_as kind (long_names_in all) n contents
      → ((more : List Read) → others ≡ Some more → map (member_at kind bytes) headers ≡ map (λ r. Some r) more)
      → before_others kind (long_names_in all) n contents others ≡ Some reads → map (member_at kind bytes) (with_header n place headers) ≡ map (λ r. Some r) reads
  unfolding with_header before_others read_as
  by_name place headers Linker contents reads others at rest is = rest reads is
  by_name place headers LongNames contents reads others at rest is = rest reads is
  by_name place headers (LongAt offset) contents reads others at rest is = one_header place headers (record { name = long_name kind (long_names_in all) offset; bytes = contents }) contents reads others at rest is
  by_name place headers (Short text) contents reads others at rest is = one_header place headers (record { name = text; bytes = contents }) contents reads others at rest is
  by_name place headers Unknown contents reads others at rest is = absurd (cc)

  headers_read : (place : ℕ) (parts : List Stored) (reads : List Read) → AreLaidOut bytes place parts → members_among kind (long_names_in all) parts ≡ Some reads
      → map (member_at kind bytes) (headers_among place parts) ≡ map (λ r. Some r) reads
  unfolding AreLaidOut headers_among members_among
  headers_read place [] reads laid is = let none : reads ≡ [] = cc in sym (ap (map (λ r. Some r)) none)
  headers_read place (s ∷ parts) reads laid is =
      let next = place + (60 + length s.contents + length s.contents % 2) in
      by_name place (headers_among next parts) (name_in s.field) s.contents reads (members_among kind (long_names_in all) parts) (at_header place s laid.0) (λ more. headers_read next parts more laid.1) is

pub map_twice : (members : List MemberView) → map (λ r. Some r) (map read_view members) ≡ map (λ m. Some (read_view m)) members
map_twice [] = refl
map_twice (m ∷ members) = ap (λ t. Some (read_view m) ∷ t) (map_twice members)

-- The indexes.

pub each_index_leads : EachIndexLeads
each_index_leads kind members accepted =
    let places = places_of kind members in
    let bytes = archive_of kind members in
    let many = length-places (first_place kind members) members in
    let back = members_read_back kind members accepted in
    let parts = parts_read_back kind members accepted in
    let r = readable kind members accepted in
    let leads : (symbol : List ℕ) → header_for bytes symbol ≡ option_map (λ f. f.0) (first_lister places members symbol) = λ symbol. search (rules, header_found, index_lookup) in
    record {
      headers = places;
      found = headers_found kind members accepted;
      read = ap (map (member_at kind bytes)) (sym (headers_of_parts kind members accepted))
          ∙ (headers_read kind bytes (parts_of kind members) parts 8 (parts_of kind members) (map read_view members) back.laid_out (members_found kind members accepted) ∙ map_twice members);
      leads = leads;
      listed = λ symbol. ap is_some (leads symbol) ∙ listed_somewhere places members symbol many;
    }

-- numbers of members lead to their headers

number_leads : (places : List ℕ) (n : ℕ) → 0 < n → n ≤ length places → numbered places n ≡ Some (place_of places n)
unfolding numbered place_of
number_leads places zero some within = absurd (omega (arith, some))
number_leads places (suc n) some within = let k : suc n - 1 ≡ n = omega arith in slice_get-get_or places n 0 (omega (arith, within)) ∙ ap (λ i. Some (get_or places i 0)) (sym k)

pub numbers_lead : (places : List ℕ) (s : List ℕ) (entries : List (List ℕ × ℕ)) → Each (λ k. (0 < k) × (k ≤ length places)) entries
    → option_and_then (numbered places) (lookup (bytes_eq s) entries) ≡ option_map (place_of places) (lookup (bytes_eq s) entries)
numbers_lead places s [] each = refl
numbers_lead places s (e ∷ entries) each = by_test (bytes_eq s e.0) (numbers_lead places s entries each.1)
  where
    by_test : (b : Bool) → option_and_then (numbered places) (lookup (bytes_eq s) entries) ≡ option_map (place_of places) (lookup (bytes_eq s) entries)
        → option_and_then (numbered places) (cond b (Some e.1) (lookup (bytes_eq s) entries)) ≡ option_map (place_of places) (cond b (Some e.1) (lookup (bytes_eq s) entries))
    by_test true rest = number_leads places e.1 each.0.0 each.0.1
    by_test false rest = rest

pub each_small : (entries : List (List ℕ × ℕ)) → Each (λ k. k < 2 ^ 16) entries → AllByRecursion (λ (e : List ℕ × ℕ). e.1 < 2 ^ 16) entries
each_small [] each = tt
each_small (e ∷ entries) each = (each.0, each_small entries each.1)

second_there : (members : List MemberView) (symbol : List ℕ) → second_in (archive_of Coff members) ≡ Some (places_of Coff members, sorted_entries (entries_of Coff members))
    → second_header_for (archive_of Coff members) symbol ≡ option_and_then (numbered (places_of Coff members)) (lookup (bytes_eq symbol) (sorted_entries (entries_of Coff members)))
unfolding second_header_for
second_there members symbol found = ap (option_and_then (λ second. option_and_then (numbered second.0) (lookup (bytes_eq symbol) second.1))) found

pub each_second_leads : EachSecondLeads
each_second_leads members accepted =
    let places = places_of Coff members in
    let entries = entries_of Coff members in
    let sorted = sorted_entries entries in
    let many = length-places (first_place Coff members) members in
    let parts = accepted_parts Coff members accepted in
    let r = readable Coff members accepted in
    let few = few_if_coff Coff members parts.few refl in
    let within : Each (λ k. (0 < k) × (k ≤ length places)) entries = subst (λ n. Each (λ k. (0 < k) × (k ≤ n)) entries) (sym many) (each_entry Coff members) in
    let small : Each (λ k. k < 2 ^ 16) sorted = each_sorted (λ k. k < 2 ^ 16) entries (each_weaker (λ k. (0 < k) × (k ≤ length members)) (λ k. k < 2 ^ 16) (λ k h. omega (arith, h.1, few)) entries (each_entry Coff members)) in
    let found = second_found members accepted (omega (arith, many, few)) (short_places (first_place Coff members) members parts.near)
    (omega (arith, (sorted_as_many members).0, r.few)) (each_small sorted small) (sorted_texts entries r.texts) in
    record {
      second = (places, sorted);
      found = found;
      headers = headers_found Coff members accepted;
      rises = entries_rise entries;
      same = λ symbol. second_there members symbol found
          ∙ (ap (option_and_then (numbered places)) (sorted_lookup entries symbol (distinct_of-coff members))
          ∙ (numbers_lead places symbol entries within
          ∙ (sym (lookup_mapped symbol (place_of places) entries) ∙ sym (header_found Coff members symbol accepted r))));
    }
