-- What is at the bounds, by computing.
use Rattle.std.proofs.Common.{refl, ap}
use Rattle.std.specs.Prelude.{nat_le}
use Rattle.std.specs.Fmt.{digits}
use Rattle.implib_archive.specs.Archive.{entries_from, entries_of, first_linker_size, first_place, front_size, is_long, long_names, name_end, name_field, names_bytes, names_size, offset_of, places_from, second_linker_size, sorted_entries, strings_of, with_first, with_name}
use Rattle.implib_archive.specs.Reader.{data_at, long_name, long_name_at, name_in, number_in, stored_at, stored_from, stored_in, trimmed}
use Rattle.implib_archive.specs.Refusal.{has_short_places, has_too_many, member_refusal, members_refusal, name_refusal, places_refusal, refusal_of, symbol_refusal, symbols_refusal}
use Rattle.implib_archive.specs.Refused.{ReadNames, RefusedArchives, WorkedBounds, WorkedFields}

pub worked_fields : WorkedFields
unfolding is_long long_names name_end name_field names_bytes offset_of sorted_entries with_name digits
worked_fields = record {
  of_15_bytes = refl;
  of_16_bytes = refl;
  with_slash = refl;
  with_other_slash = refl;
  field_of_15_bytes = refl;
  field_of_long = refl;
  once_in_gnu = refl;
  once_in_coff = refl;
  sorted = refl;
}

pub read_names : ReadNames
unfolding long_name long_name_at name_in number_in trimmed
read_names = record {
  short = refl;
  not_ended = refl;
  more_behind = refl;
  linker = refl;
  long_names = refl;
  at_offset = refl;
  no_offset = refl;
  offset_and_more = refl;
  gnu_with_slash = refl;
  gnu_second = refl;
  coff_with_slash = refl;
  coff_with_line_end = refl;
  size = refl;
  size_and_more = refl;
  two_sizes = refl;
  size_behind_a_space = refl;
  signed_size = refl;
  no_size = refl;
}

pub refused_archives : RefusedArchives
unfolding data_at number_in stored_at stored_from stored_in
refused_archives = record {
  read = refl;
  of_even_size = refl;
  none = refl;
  thin = refl;
  signature_cut = refl;
  not_ended = refl;
  ended_otherwise = refl;
  data_cut = refl;
  padding_missing = refl;
  size_no_number = refl;
  header_cut = refl;
}

pub worked_bounds : WorkedBounds
unfolding entries_from entries_of first_linker_size first_place front_size is_long long_names name_end names_bytes names_size offset_of places_from second_linker_size strings_of with_first with_name has_short_places has_too_many member_refusal members_refusal name_refusal places_refusal refusal_of symbol_refusal symbols_refusal
worked_bounds = record {
  name_before_symbol = refl;
  empty_name_before_symbol = refl;
  first_symbol = refl;
  first_member = refl;
  carriage_return = refl;
  line_end_in_symbol = refl;
  few = λ members e. ap (λ n. nat_le 65535 n) e;
  too_many = λ members e. ap (λ n. nat_le 65535 n) e;
  many_of_gnu = λ members. refl;
  last_place = refl;
  first_too_far = refl;
  second_too_far = refl;
  second_last_place = refl;
  long = λ bytes e. rw e refl;
  too_long = λ bytes e. rw e refl;
}
