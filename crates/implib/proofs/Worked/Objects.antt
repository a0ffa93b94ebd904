-- The worked objects, by computing.
use Rattle.std.proofs.Common.{arith}
use Rattle.implib.specs.Formats.Bytes.{u16_bytes, u32_bytes}
use Rattle.implib.specs.Formats.Layout.{auxiliary_count, contents_offset, contents_size, header_bytes, encoded_size, offsets_from, record_count, records, string_offsets, string_size, strings_size, symbol_table_offset}
use Rattle.implib.specs.Worked.Digits.{bytes_of_digits}
use Rattle.implib.specs.Worked.Objects.{WorkedObjects, descriptor, function, null_descriptor, null_thunk, one_section, data_offsets_from, two_names, weak}

pub worked_objects : WorkedObjects
unfolding bytes_of_digits two_names one_section function descriptor null_descriptor null_thunk weak data_offsets_from encoded_size symbol_table_offset contents_offset contents_size records record_count auxiliary_count strings_size string_size string_offsets offsets_from header_bytes u16_bytes u32_bytes
worked_objects = grind arith
