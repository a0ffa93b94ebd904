-- The worked library, by computing.
use Rattle.std.proofs.Common.{◌≡◌, ℕ, List, ◌∷◌, Option, Some, ap, arith, length, refl, subst, sym, ◌∙◌}
use Rattle.std.specs.Fmt.{digits}
use Rattle.implib.specs.Worked.Digits.{bytes_of_digits}
use Rattle.implib_archive.specs.Archive.{end_from, entries_from, entries_of, first_linker, first_linker_size, first_place, front, front_size, is_long, linker_label, linkers, long_names, member_label, member_part, name_end, name_field, names_bytes, names_label, names_part, names_size, offset_of, place_of, places_from, second_linker, second_linker_size, sorted_entries, strings_of, with_first, with_name}
use Rattle.implib_archive.specs.Leads.{header_for, numbered, second_header_for, with_header}
use Rattle.implib_archive.specs.Parts.{field, header_bytes, padded_part_bytes, padding, part_bytes, signature, u16_le, u32_be, u32_le}
use Rattle.implib_archive.specs.Reader.{Read, data_at, first_in, linker_data, linker_in, long_name, long_name_at, long_names_in, long_names_or, before_others, member_at, members_among, members_in, name_in, number_in, numbers_in, paired, read_as, second_in, stored_at, stored_from, stored_in, texts_in, trimmed}
use Rattle.implib_archive.specs.Refusal.{has_short_places, has_too_many, member_refusal, members_refusal, name_refusal, places_refusal, symbol_refusal, symbols_refusal}
use Rattle.implib_arm64ec.specs.Archive.{ec_archive, ec_front, ec_index, ec_label, ec_members, ec_part, library_refusal}
use Rattle.implib_arm64ec.specs.ArchiveLaws.{IndexesLead, IsReadBack}
use Rattle.implib_arm64ec.specs.ArchiveReader.{ec_data_in, ec_header_for, ec_headers_among, ec_headers_in, ec_symbols_in, numbered_symbols}
use Rattle.implib_arm64ec.specs.WorkedArchives.{WorkedArchiveReadings, WorkedArchives, WorkedLibraryRefusals, worked_archive, worked_library}
use Rattle.implib_arm64ec.proofs.FoundIndexes.{each_index_leads}
use Rattle.implib_arm64ec.proofs.FoundParts.{each_is_read_back}

pub worked_archives : WorkedArchives
unfolding bytes_of_digits worked_archive ec_archive ec_front ec_index ec_label ec_members ec_part end_from entries_from entries_of first_linker first_linker_size first_place front front_size is_long linker_label linkers long_names member_label member_part name_end name_field names_bytes names_label names_part names_size offset_of place_of places_from second_linker second_linker_size sorted_entries strings_of with_first with_name field header_bytes padded_part_bytes padding part_bytes signature u16_le u32_be u32_le digits
worked_archives = grind arith

pub worked_library_refusals : WorkedLibraryRefusals
unfolding bytes_of_digits worked_archive library_refusal ec_index entries_from entries_of first_linker_size first_place front_size has_short_places has_too_many is_long long_names member_refusal members_refusal name_end name_refusal names_bytes names_size offset_of places_from places_refusal second_linker_size sorted_entries strings_of symbol_refusal symbols_refusal u16_le u32_le with_first with_name
worked_library_refusals = record { none = refl; no_name = refl; nul_in_symbol = refl }

read_whole : IsReadBack worked_library worked_archive
read_whole = subst (IsReadBack worked_library) worked_archives.whole (each_is_read_back worked_library worked_library_refusals.none)

leads_whole : IndexesLead worked_library worked_archive
leads_whole = subst (IndexesLead worked_library) worked_archives.whole (each_index_leads worked_library worked_library_refusals.none)

-- the size of the fourth member that is read
abbrev fourth_size : Option (List Read) → ℕ
fourth_size (Some (a ∷ b ∷ c ∷ read ∷ others)) = length read.bytes
fourth_size _ = 0

pub worked_archive_readings : WorkedArchiveReadings
unfolding bytes_of_digits worked_archive data_at first_in linker_data linker_in long_name long_name_at long_names_in long_names_or before_others member_at members_among members_in name_in number_in numbers_in paired read_as second_in stored_at stored_from stored_in texts_in trimmed header_for numbered second_header_for with_header ec_data_in ec_header_for ec_headers_among ec_headers_in ec_symbols_in numbered_symbols
worked_archive_readings = record {
  read = read_whole;
  leads = leads_whole;
  ec_f = refl;
  ec_marked = refl;
  f = refl;
  marked = refl;
  other_reader = refl;
  other_order = λ other. let sizes : 31 ≡ 28 = ap fourth_size (sym read_whole.in_order ∙ other.in_order) in absurd (omega (arith, sizes));
}
