-- The objects of writers, by computing.
use Rattle.std.proofs.Common.{refl}
use Rattle.implib.specs.Formats.Bytes.{u16_bytes, u32_bytes}
use Rattle.implib.specs.Formats.Layout.{auxiliary_bytes, auxiliary_count, contents, contents_offset, contents_size, encoded, header_bytes, name_field, offsets_from, pointer_or_zero, record_count, records, relocation_bytes, section_header, section_headers, string_bytes_of, string_offsets, string_size, string_table, strings_size, symbol_bytes, symbol_table_offset}
use Rattle.implib.specs.Formats.Writer.{layout_of, long_names, name_location, symbol_written, with_long_name, with_name}
use Rattle.implib.specs.Worked.Digits.{bytes_of_digits}
use Rattle.implib.specs.Worked.Layouts.{one_section_bytes, two_names_bytes}
use Rattle.implib_tests.specs.Objects.{BytesOfObjects, three_sections_bytes, with_auxiliary_bytes}

pub bytes_of_objects : BytesOfObjects
unfolding bytes_of_digits layout_of long_names name_location symbol_written with_long_name with_name one_section_bytes two_names_bytes three_sections_bytes with_auxiliary_bytes auxiliary_bytes auxiliary_count contents contents_offset contents_size encoded header_bytes name_field offsets_from pointer_or_zero record_count records relocation_bytes section_header section_headers string_bytes_of string_offsets string_size string_table strings_size symbol_bytes symbol_table_offset u16_bytes u32_bytes
bytes_of_objects = record {
  two_names = refl;
  one_section = refl;
  one_name_size = refl;
  first_name = refl;
  second_name = refl;
  index_behind = refl;
  with_auxiliary = refl;
  three_sections = refl;
}
