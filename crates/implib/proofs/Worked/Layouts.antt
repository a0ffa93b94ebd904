-- The worked layouts, by computing.
use Rattle.std.proofs.Common.{refl}
use Rattle.implib.specs.Formats.Bytes.{u16_bytes, u32_bytes}
use Rattle.implib.specs.Formats.Layout.{auxiliary_bytes, auxiliary_count, contents, contents_offset, contents_size, header_bytes, encoded, name_field, offsets_from, pointer_or_zero, record_count, records, relocation_bytes, section_header, section_headers, string_bytes_of, string_offsets, string_size, string_table, strings_size, symbol_bytes, symbol_table_offset}
use Rattle.implib.specs.Worked.Digits.{bytes_of_digits}
use Rattle.implib.specs.Worked.Layouts.{WorkedLayouts, descriptor_bytes, function_bytes, function_bytes_arm64, head_bytes, null_descriptor_bytes, null_thunk_bytes, one_section_bytes, tail_bytes, two_names_bytes, weak_bytes}
use Rattle.implib.specs.Worked.Objects.{descriptor, function, head, null_descriptor, null_thunk, one_section, tail, two_names, weak}

pub worked_layouts : WorkedLayouts
unfolding bytes_of_digits descriptor function head null_descriptor null_thunk one_section tail two_names weak descriptor_bytes function_bytes function_bytes_arm64 head_bytes null_descriptor_bytes null_thunk_bytes one_section_bytes tail_bytes two_names_bytes weak_bytes auxiliary_bytes auxiliary_count contents contents_offset contents_size header_bytes encoded name_field offsets_from pointer_or_zero record_count records relocation_bytes section_header section_headers string_bytes_of string_offsets string_size string_table strings_size symbol_bytes symbol_table_offset u16_bytes u32_bytes
worked_layouts = record {
  two_names = refl;
  one_section = refl;
  descriptor = refl;
  null_descriptor = refl;
  null_thunk = refl;
  weak = refl;
  head = refl;
  tail = refl;
  function_on_amd64 = refl;
  function_on_arm64 = refl;
}
