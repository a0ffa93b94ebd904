-- The worked records, by computing.
use Rattle.std.proofs.Common.{arith}
use Rattle.implib.specs.Formats.Bytes.{u16_bytes, u32_bytes}
use Rattle.implib.specs.Formats.Layout.{auxiliary_bytes, auxiliary_count, contents_offset, contents_size, header_bytes, name_field, pointer_or_zero, record_count, records, relocation_bytes, section_header, symbol_bytes, symbol_table_offset}
use Rattle.implib.specs.Formats.Object.{before_nul, name_of, relocation_of, symbol_of, u16_at, u32_at, up_to_nul}
use Rattle.implib.specs.Formats.Writer.{name_location, symbol_written}
use Rattle.implib.specs.Worked.Digits.{bytes_of_digits}
use Rattle.implib.specs.Worked.Records.{WorkedFieldsOfRecords}

pub worked_fields_of_records : WorkedFieldsOfRecords
unfolding bytes_of_digits auxiliary_bytes auxiliary_count contents_offset contents_size header_bytes name_field pointer_or_zero record_count records relocation_bytes section_header symbol_bytes symbol_table_offset before_nul name_of relocation_of symbol_of u16_at u32_at up_to_nul name_location symbol_written u16_bytes u32_bytes
worked_fields_of_records = grind arith
