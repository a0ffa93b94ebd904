-- What nothing is read from, by computing.
use Rattle.std.proofs.Common.{refl}
use Rattle.implib.specs.Formats.Object.{before_nul, bytes_at, data_at, each_at, entries_at, name_of, object_in, object_of_header, relocation_at, relocation_of, section_at, section_of, strings_at, symbol_of, u16_at, u32_at, up_to_nul}
use Rattle.implib.specs.Formats.ShortImport.{short_import_in}
use Rattle.implib.specs.Worked.Digits.{bytes_of_digits}
use Rattle.implib.specs.Worked.Refused.{RefusedNames, RefusedObjects, RefusedShortImports, missing_record, named_at, of_section, one_weak_external, short_import, two_weak_externals, weak_for_a_record, weak_for_no_symbol}

pub refused_objects : RefusedObjects
unfolding bytes_of_digits before_nul bytes_at data_at each_at entries_at name_of object_in object_of_header relocation_at relocation_of section_at section_of strings_at symbol_of u16_at u32_at up_to_nul short_import_in missing_record named_at of_section one_weak_external two_weak_externals weak_for_a_record weak_for_no_symbol
refused_objects = record {
  alias = refl;
  two_are_read = refl;
  two_are_no_alias = refl;
  no_target = refl;
  record_for_target = refl;
  auxiliary_record_missing = refl;
  name_read = refl;
  name_without_nul = refl;
  nul_behind_the_table = refl;
  name_behind_the_table = refl;
  name_far_behind_the_table = refl;
  table_behind_the_file = refl;
  no_table = refl;
  dll_read = refl;
  dll_without_nul = refl;
  nul_behind_the_section = refl;
  data_behind_the_file = refl;
  relocation_behind_the_file = refl;
  two_relocations = refl;
  header_cut = refl;
}

pub refused_short_imports : RefusedShortImports
unfolding bytes_of_digits u16_at u32_at short_import_in short_import
refused_short_imports = record {
  function = refl;
  greatest_types = refl;
  import_type_read = refl;
  import_type_of_3 = refl;
  name_type_read = refl;
  name_type_of_4 = refl;
  name_type_of_7 = refl;
  size_too_small = refl;
  size_too_great = refl;
  dll_without_nul = refl;
  one_text = refl;
  three_texts = refl;
  no_texts = refl;
}

pub refused_names : RefusedNames
refused_names = record {
  machine = refl;
  machine_x64 = refl;
  machine_x86 = refl;
  machine_of_small_letters = refl;
  machine_of_one_small_letter = refl;
  machine_cut = refl;
  machine_longer = refl;
  machine_of_no_name = refl;
  flavor = refl;
  flavor_of_a_capital = refl;
  flavor_of_capitals = refl;
  flavor_cut = refl;
  flavor_of_no_name = refl;
  numbers = refl;
  number_0 = refl;
  number_behind_i386 = refl;
  number_of_arm = refl;
  number_before_amd64 = refl;
  number_behind_arm64 = refl;
  greatest_number = refl;
}
