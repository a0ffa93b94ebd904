-- The worked libraries of delayed imports, by computing.
use Rattle.std.proofs.Common.{refl}
use Rattle.implib.specs.Formats.Object.{before_nul, bytes_at, data_at, each_at, entries_at, name_of, relocation_at, relocation_of, section_at, section_of, strings_at, symbol_of, u16_at, u32_at, up_to_nul}
use Rattle.implib.specs.Worked.Digits.{bytes_of_digits}
use Rattle.implib_archive.specs.Reader.{data_at as archive_data_at, number_in, stored_at, trimmed}
use Rattle.implib_read.specs.Archives.{archive_in, parts_from, parts_in}
use Rattle.implib_read.specs.Classes.{library_in, members_read}
use Rattle.implib_read.specs.Delayed.{delayed_ask, delayed_descriptor, delayed_dll, delayed_import, delayed_with}
use Rattle.implib_read.specs.Following.{pointed, pointed_by}
use Rattle.implib_read.specs.Imports.{ask_of_object, dll_of_object, import_of_object}
use Rattle.implib_read.specs.MemberNames.{long_name_of, member_name, without_slash}
use Rattle.implib_read.specs.Objects.{entries_found, entry_at, object_found, object_of_found, records_in}
use Rattle.implib_read.specs.ShortImports.{short_import_found}
use Rattle.implib_tests.specs.Read.DelayedLibraries.{WorkedDlltool64, WorkedDlltool32, WorkedLater, WorkedOwn64, worked_dlltool64 as dlltool64_bytes, worked_dlltool32 as dlltool32_bytes, worked_later as later_bytes, worked_own64 as own64_bytes}

pub worked_dlltool64 : WorkedDlltool64
unfolding before_nul bytes_at data_at each_at entries_at name_of relocation_at relocation_of section_at section_of strings_at symbol_of u16_at u32_at up_to_nul bytes_of_digits archive_data_at number_in stored_at trimmed archive_in parts_from parts_in library_in members_read pointed pointed_by ask_of_object dll_of_object import_of_object delayed_ask delayed_descriptor delayed_dll delayed_import delayed_with long_name_of member_name without_slash entries_found entry_at object_found object_of_found records_in short_import_found dlltool64_bytes
worked_dlltool64 = record { members = refl; other_dll = refl; no_jump = refl; no_code = refl; no_ordinal = refl; no_helper = refl }

pub worked_dlltool32 : WorkedDlltool32
unfolding before_nul bytes_at data_at each_at entries_at name_of relocation_at relocation_of section_at section_of strings_at symbol_of u16_at u32_at up_to_nul bytes_of_digits archive_data_at number_in stored_at trimmed archive_in parts_from parts_in library_in members_read pointed pointed_by ask_of_object dll_of_object import_of_object delayed_ask delayed_descriptor delayed_dll delayed_import delayed_with long_name_of member_name without_slash entries_found entry_at object_found object_of_found records_in short_import_found dlltool32_bytes
worked_dlltool32 = record { members = refl; no_jump = refl }

pub worked_later : WorkedLater
unfolding before_nul bytes_at data_at each_at entries_at name_of relocation_at relocation_of section_at section_of strings_at symbol_of u16_at u32_at up_to_nul bytes_of_digits archive_data_at number_in stored_at trimmed archive_in parts_from parts_in library_in members_read pointed pointed_by ask_of_object dll_of_object import_of_object delayed_ask delayed_descriptor delayed_dll delayed_import delayed_with long_name_of member_name without_slash entries_found entry_at object_found object_of_found records_in short_import_found later_bytes
worked_later = record { members = refl; no_descriptor = refl; no_tail = refl }

pub worked_own64 : WorkedOwn64
unfolding before_nul bytes_at data_at each_at entries_at name_of relocation_at relocation_of section_at section_of strings_at symbol_of u16_at u32_at up_to_nul bytes_of_digits archive_data_at number_in stored_at trimmed archive_in parts_from parts_in library_in members_read pointed pointed_by ask_of_object dll_of_object import_of_object delayed_ask delayed_descriptor delayed_dll delayed_import delayed_with long_name_of member_name without_slash entries_found entry_at object_found object_of_found records_in short_import_found own64_bytes
worked_own64 = record { members = refl; other_dll = refl; other_addresses = refl; other_names = refl; no_code = refl; other_helper = refl; own_helper = refl }
