-- The worked libraries, by computing.
use Rattle.std.proofs.Common.{refl}
use Rattle.implib.specs.Formats.Object.{before_nul, bytes_at, data_at, each_at, entries_at, name_of, relocation_at, relocation_of, section_at, section_of, strings_at, symbol_of, u16_at, u32_at, up_to_nul}
use Rattle.implib.specs.Worked.Digits.{bytes_of_digits}
use Rattle.implib_archive.specs.Reader.{data_at as archive_data_at, number_in, stored_at, trimmed}
use Rattle.implib_read.specs.Archives.{archive_in, parts_from, parts_in}
use Rattle.implib_read.specs.Classes.{library_in, members_read}
use Rattle.implib_read.specs.Delayed.{delayed_ask, delayed_descriptor, delayed_dll, delayed_import, delayed_with}
use Rattle.implib_read.specs.Following.{pointed, pointed_by}
use Rattle.implib_read.specs.Imports.{ask_of_object, dll_of_object, import_of_object}
use Rattle.implib_read.specs.Indexes.{entries_from, first_index_in}
use Rattle.implib_read.specs.MemberNames.{long_name_of, member_name, without_slash}
use Rattle.implib_read.specs.Objects.{entries_found, entry_at, object_found, object_of_found, records_in}
use Rattle.implib_read.specs.ShortImports.{short_import_found}
use Rattle.implib_tests.specs.Read.MoreLibraries.{WorkedDelayed, WorkedMicrosoft, WorkedRustc, WorkedWinebuild, worked_delayed as delayed_bytes, worked_microsoft as microsoft_bytes, worked_rustc as rustc_bytes, worked_winebuild as winebuild_bytes}

pub worked_microsoft : WorkedMicrosoft
unfolding before_nul bytes_at data_at each_at entries_at name_of relocation_at relocation_of section_at section_of strings_at symbol_of u16_at u32_at up_to_nul bytes_of_digits archive_data_at number_in stored_at trimmed archive_in parts_from parts_in library_in members_read pointed pointed_by ask_of_object dll_of_object import_of_object delayed_import entries_from first_index_in long_name_of member_name without_slash entries_found entry_at object_found object_of_found records_in short_import_found microsoft_bytes
worked_microsoft = record { members = refl; leads = refl; near = refl }

pub worked_winebuild : WorkedWinebuild
unfolding before_nul bytes_at data_at each_at entries_at name_of relocation_at relocation_of section_at section_of strings_at symbol_of u16_at u32_at up_to_nul bytes_of_digits archive_data_at number_in stored_at trimmed archive_in parts_from parts_in library_in members_read pointed pointed_by ask_of_object dll_of_object import_of_object delayed_import entries_from first_index_in long_name_of member_name without_slash entries_found entry_at object_found object_of_found records_in short_import_found winebuild_bytes
worked_winebuild = record { members = refl; leads = refl; other_dll = refl; no_ordinal = refl }

pub worked_delayed : WorkedDelayed
unfolding before_nul bytes_at data_at each_at entries_at name_of relocation_at relocation_of section_at section_of strings_at symbol_of u16_at u32_at up_to_nul bytes_of_digits archive_data_at number_in stored_at trimmed archive_in parts_from parts_in library_in members_read pointed pointed_by ask_of_object dll_of_object import_of_object delayed_ask delayed_descriptor delayed_dll delayed_import delayed_with entries_from first_index_in long_name_of member_name without_slash entries_found entry_at object_found object_of_found records_in short_import_found delayed_bytes
worked_delayed = record { members = refl; near = refl; no_code = refl }

pub worked_rustc : WorkedRustc
unfolding before_nul bytes_at data_at each_at entries_at name_of relocation_at relocation_of section_at section_of strings_at symbol_of u16_at u32_at up_to_nul bytes_of_digits archive_data_at number_in stored_at trimmed archive_in parts_from parts_in library_in members_read pointed pointed_by ask_of_object dll_of_object import_of_object delayed_import entries_from first_index_in long_name_of member_name without_slash entries_found entry_at object_found object_of_found records_in short_import_found rustc_bytes
worked_rustc = record { members = refl; near = refl }
