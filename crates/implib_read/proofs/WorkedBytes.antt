-- The worked libraries, by computing.
use Rattle.std.proofs.Common.{arith, refl}
use Rattle.implib.specs.Formats.Object.{before_nul, bytes_at, data_at, each_at, entries_at, name_of, relocation_at, relocation_of, section_at, section_of, strings_at, symbol_of, u16_at, u32_at, up_to_nul}
use Rattle.implib.specs.Worked.Digits.{bytes_of_digits}
use Rattle.implib_archive.specs.Reader.{data_at as archive_data_at, number_in, stored_at, trimmed}
use Rattle.implib_read.specs.Archives.{archive_in, parts_from, parts_in}
use Rattle.implib_read.specs.Classes.{library_in, members_read}
use Rattle.implib_read.specs.Delayed.{delayed_import}
use Rattle.implib_read.specs.Following.{pointed, pointed_by}
use Rattle.implib_read.specs.Imports.{ask_of_object, dll_of_object, import_of_object}
use Rattle.implib_read.specs.Indexes.{ec_entries_in, entries_from, first_index_in, second_index_in}
use Rattle.implib_read.specs.MemberNames.{long_name_of, member_name, without_slash}
use Rattle.implib_read.specs.Objects.{entries_found, entry_at, object_found, object_of_found, records_in}
use Rattle.implib_read.specs.ShortImports.{short_import_found}
use Rattle.implib_read.specs.Symbols.{WorkedSymbols}
use Rattle.implib_read.specs.WorkedArm64ec.{WorkedArm64ecImports, WorkedEcIndexes, WorkedUnmarked, worked_constant, worked_cplusplus, worked_data, worked_function, worked_ordinal}
use Rattle.implib_read.specs.WorkedCutting.{WorkedCuts}
use Rattle.implib_read.specs.WorkedFiles.{WorkedChanges, WorkedIndexes, WorkedLeads, WorkedNames, WorkedParts, WorkedRoom, WorkedShortImports, worked_by_name, worked_exported, worked_first_index, worked_indexed, worked_no_slash, worked_second_index, worked_unpadded}
use Rattle.implib_read.specs.WorkedLibraries.{WorkedLibraries, worked_dlltool, worked_ld, worked_llvm}

pub worked_libraries : WorkedLibraries
unfolding before_nul bytes_at data_at each_at entries_at name_of relocation_at relocation_of section_at section_of strings_at symbol_of u16_at u32_at up_to_nul bytes_of_digits archive_data_at number_in stored_at trimmed archive_in parts_from parts_in library_in members_read pointed pointed_by ask_of_object dll_of_object import_of_object long_name_of member_name without_slash entries_found entry_at object_found object_of_found records_in short_import_found delayed_import worked_dlltool worked_ld worked_llvm
worked_libraries = record { ld = refl; dlltool = refl; llvm = refl }

pub worked_short_imports : WorkedShortImports
unfolding before_nul bytes_of_digits short_import_found u16_at u32_at worked_by_name worked_exported
worked_short_imports = grind arith

pub worked_unmarked : WorkedUnmarked
worked_unmarked = grind arith

pub worked_arm64ec_imports : WorkedArm64ecImports
unfolding before_nul bytes_of_digits short_import_found u16_at u32_at worked_constant worked_cplusplus worked_data worked_function worked_ordinal
worked_arm64ec_imports = grind arith

pub worked_ec_indexes : WorkedEcIndexes
unfolding bytes_at bytes_of_digits ec_entries_in entries_from u16_at u32_at
worked_ec_indexes = grind arith

pub worked_cuts : WorkedCuts
unfolding before_nul short_import_found u16_at u32_at
worked_cuts = grind arith

pub worked_parts : WorkedParts
unfolding archive_data_at bytes_of_digits member_name number_in parts_from parts_in stored_at trimmed without_slash worked_no_slash worked_unpadded
worked_parts = record {
  empty = refl;
  unpadded = refl;
  padded = refl;
  no_slash = refl;
  thin = refl;
  cut = refl;
  byte_more = refl;
  header_end = refl;
  size = refl;
}

pub worked_names : WorkedNames
unfolding long_name_of member_name number_in trimmed without_slash
worked_names = grind arith

pub worked_room : WorkedRoom
worked_room = grind arith

pub worked_changes : WorkedChanges
unfolding before_nul bytes_at data_at each_at entries_at name_of relocation_at relocation_of section_at section_of strings_at symbol_of u16_at u32_at up_to_nul bytes_of_digits archive_data_at number_in stored_at trimmed archive_in parts_from parts_in library_in members_read pointed pointed_by ask_of_object dll_of_object import_of_object long_name_of member_name without_slash entries_found object_found object_of_found records_in short_import_found delayed_import worked_ld
worked_changes = record { as_it_is = refl; addend = refl; no_descriptor = refl }

pub worked_indexes : WorkedIndexes
unfolding bytes_at bytes_of_digits entries_from first_index_in second_index_in u16_at u32_at worked_first_index worked_second_index
worked_indexes = grind arith

pub worked_leads : WorkedLeads
unfolding archive_data_at archive_in before_nul bytes_at bytes_of_digits data_at each_at entries_at entries_found entries_from first_index_in member_name name_of number_in object_found object_of_found parts_from parts_in relocation_at relocation_of section_at section_of short_import_found stored_at strings_at symbol_of trimmed u16_at u32_at up_to_nul without_slash worked_indexed
worked_leads = record { right = refl; misled = refl }

pub worked_symbols : WorkedSymbols
worked_symbols = grind arith
