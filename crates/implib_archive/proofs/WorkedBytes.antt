-- The worked archives, by computing.
use Rattle.std.proofs.Common.{◌≡◌, ◌<◌, ◌≤◌, ◌^◌, [], ◌∷◌, List, None, Some, codes, length, nat_le, refl, subst, ap, ◌∙◌, arith}
use Rattle.std.proofs.lemmas.Bool.{le-leb, le-ltb, lt-ltb}
use Rattle.implib.specs.Members.MemberSpec.{MemberView}
use Rattle.std.specs.Fmt.{digits}
use Rattle.implib.specs.Worked.Digits.{bytes_of_digits}
use Rattle.implib_archive.specs.Archive.{archive_of, end_from, entries_from, entries_of, first_linker, first_linker_size, first_place, front, front_of, front_size, is_long, linker_label, linkers, long_names, member_label, member_part, name_end, name_field, names_bytes, names_label, names_part, names_size, offset_of, place_of, places_from, second_linker, second_linker_size, sorted_entries, strings_of, with_first, with_name}
use Rattle.implib_archive.specs.Parts.{field, header_bytes, padded_part_bytes, padding, part_bytes, signature, u16_le, u32_be, u32_le}
use Rattle.implib_archive.specs.Reader.{data_at, first_in, linker_data, linker_in, long_name, long_name_at, long_names_in, long_names_or, before_others, member_at, members_among, members_in, name_in, number_in, numbers_in, paired, read_as, second_in, stored_at, stored_from, stored_in, texts_in, trimmed}
use Rattle.implib_archive.specs.Refusal.{has_short_places, has_too_many, member_refusal, members_refusal, name_refusal, places_refusal, refusal_of, symbol_refusal, symbols_refusal}
use Rattle.implib_archive.specs.Worked.{WorkedArchives, WorkedIndexes, WorkedReadBack, WorkedReadings, WorkedRefusals, member, worked_coff, worked_gnu, worked_members}
use Rattle.std.specs.Option.{option_map}
use Rattle.std.specs.Prelude.{ℕ, reverse, unwrap_or}
use Rattle.std.specs.declared.cmp.Ordering.TheVariants.{Less, Greater}
use Rattle.implib_archive.specs.Leads.{IndexLeads, SecondLeads, first_lister, header_for, headers_among, headers_in, numbered, second_header_for, with_header}
use Rattle.std.specs.List.Sorted.{IsStrictlySortedBy}
use Rattle.implib_archive.proofs.Leading.{each_index_leads, each_second_leads}
use Rattle.implib_archive.specs.ReadBack.{AreLaidOut, AreReadBack}
use Rattle.implib_archive.specs.declared.kind.Kind.{Kind}
use Rattle.implib_archive.specs.declared.kind.Kind.TheVariants.{Coff, Gnu}
use Rattle.implib_archive.specs.declared.error.Fault.TheVariants.{MemberTooLong, TooManyMembers}
use Rattle.implib_archive.proofs.FoundMembers.{members_read_back}

pub worked_archives : WorkedArchives
unfolding bytes_of_digits worked_coff worked_gnu archive_of end_from entries_from entries_of first_linker first_linker_size first_place front front_of front_size is_long linker_label linkers long_names member_label member_part name_end name_field names_bytes names_label names_part names_size offset_of place_of places_from second_linker second_linker_size sorted_entries strings_of with_first with_name field header_bytes padded_part_bytes padding part_bytes signature u16_le u32_be u32_le digits
worked_archives = grind arith

pub worked_readings : WorkedReadings
unfolding bytes_of_digits worked_coff worked_gnu data_at first_in linker_data linker_in long_name long_name_at long_names_in long_names_or before_others member_at members_among members_in name_in number_in numbers_in paired read_as second_in stored_at stored_from stored_in texts_in trimmed
worked_readings = grind arith

long_member : (kind : Kind) (bytes : List ℕ) → 2 ^ 32 ≤ length bytes → member_refusal kind (member (codes "a") bytes []) ≡ Some MemberTooLong
unfolding member_refusal name_refusal symbols_refusal
long_member Coff bytes size = rw (le-ltb (length bytes) (2 ^ 32) size) refl
long_member Gnu bytes size = rw (le-ltb (length bytes) (2 ^ 32) size) refl

short_member : (kind : Kind) (bytes : List ℕ) → length bytes < 2 ^ 32 → member_refusal kind (member (codes "a") bytes []) ≡ None
unfolding member_refusal name_refusal symbols_refusal
short_member Coff bytes size = rw (lt-ltb (length bytes) (2 ^ 32) size) refl
short_member Gnu bytes size = rw (lt-ltb (length bytes) (2 ^ 32) size) refl

many_members : (members : List MemberView) → members_refusal Coff members ≡ None → 65535 ≤ length members → refusal_of Coff members ≡ Some TooManyMembers
unfolding refusal_of has_too_many
many_members members fine size = rw (fine, le-leb 65535 (length members) size) refl

pub worked_refusals : WorkedRefusals
unfolding entries_from entries_of first_linker_size first_place front_size is_long long_names name_end names_bytes names_size offset_of places_from second_linker_size strings_of with_first with_name has_short_places has_too_many member_refusal members_refusal name_refusal places_refusal refusal_of symbol_refusal symbols_refusal
worked_refusals = grind (arith, long_member, short_member, many_members, nat_le)

pub worked_read_back : WorkedReadBack
unfolding AreLaidOut bytes_of_digits worked_coff worked_gnu archive_of end_from entries_from entries_of first_linker first_linker_size first_place front front_of front_size is_long linker_label linkers long_names member_label member_part name_end name_field names_bytes names_label names_part names_size offset_of place_of places_from second_linker second_linker_size sorted_entries strings_of with_first with_name field header_bytes padded_part_bytes padding part_bytes signature u16_le u32_be u32_le digits data_at long_name long_name_at long_names_in long_names_or before_others members_among members_in name_in number_in read_as stored_at stored_from stored_in trimmed
worked_read_back = record {
  coff = subst (AreReadBack Coff worked_members) worked_archives.coff (members_read_back Coff worked_members worked_refusals.none_of_coff);
  gnu = subst (AreReadBack Gnu worked_members) worked_archives.gnu (members_read_back Gnu worked_members worked_refusals.none_of_gnu);
  gnu_parts = (refl, (refl, (refl, (refl, refl))));
  gnu_long_names = (refl, (refl, (refl, refl)));
  coff_long_names = refl;
  coff_members = (refl, (refl, refl));
  byte_more = λ all. let last : 308 ≡ 309 = all.1.1.1.1 in absurd (omega (arith, last));
  none_more = refl;
  unnamed = refl;
}

turned_leads : (headers : List ℕ) → headers ≡ 182 ∷ 246 ∷ [] → header_for worked_gnu (codes "g") ≡ option_map (λ f. f.0) (first_lister headers (reverse worked_members) (codes "g")) → header_for worked_gnu (codes "g") ≡ Some 182
turned_leads headers is leads = leads ∙ ap (λ h. option_map (λ f. f.0) (first_lister h (reverse worked_members) (codes "g"))) is

pub worked_indexes : WorkedIndexes
unfolding IsStrictlySortedBy bytes_of_digits worked_coff worked_gnu header_for headers_among headers_in numbered second_header_for with_header data_at first_in linker_data linker_in long_name_at name_in number_in numbers_in paired second_in stored_at stored_from stored_in texts_in trimmed
worked_indexes = record {
  coff = subst (IndexLeads Coff worked_members) worked_archives.coff (each_index_leads Coff worked_members worked_refusals.none_of_coff);
  gnu = subst (IndexLeads Gnu worked_members) worked_archives.gnu (each_index_leads Gnu worked_members worked_refusals.none_of_gnu);
  second = subst SecondLeads worked_archives.coff (each_second_leads worked_members worked_refusals.none_of_coff);
  coff_headers = refl;
  gnu_headers = refl;
  coff_f = refl;
  coff_g = refl;
  coff_h = refl;
  second_f = refl;
  second_g = refl;
  second_h = refl;
  gnu_f = refl;
  gnu_g = refl;
  gnu_h = refl;
  no_gnu_second = refl;
  turned = λ i.
      let found : Some (182 ∷ 246 ∷ []) ≡ Some i.headers = i.found in
      let same : i.headers ≡ 182 ∷ 246 ∷ [] = cc in
      let at : Some 246 ≡ Some 182 = turned_leads i.headers same (i.leads (codes "g")) in
      let n : 246 ≡ 182 = ap (λ o. unwrap_or o 0) at in
      absurd (omega (arith, n));
  unsorted = λ rises. let at : Greater ≡ Less = rises.0.0 in absurd (cc);
}
