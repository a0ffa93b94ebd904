-- The worked counts, by computing.
use Rattle.std.proofs.Common.{refl}
use Rattle.std.specs.Prelude.{length}
use Rattle.std.proofs.lemmas.Bool.{leb-true, ltb-true}
use Rattle.implib.specs.Formats.Bytes.{u16_bytes, u32_bytes}
use Rattle.implib.specs.Formats.Layout.{contents_offset, header_bytes, pointer_or_zero, section_header, symbol_table_offset}
use Rattle.implib.specs.Members.Members.{refusal, renamed_refusal}
use Rattle.implib.specs.Worked.Digits.{bytes_of_digits}
use Rattle.implib.proofs.Worked.Statements.{opened, parses}
use Rattle.implib_tests.specs.Counts.{CountsOfObjects, CountsOfTexts, relocated}

pub counts_of_objects : CountsOfObjects
unfolding bytes_of_digits contents_offset header_bytes pointer_or_zero section_header symbol_table_offset u16_bytes u32_bytes
counts_of_objects = record {
  sections_counted = refl;
  relocations_counted = refl;
  section_added = refl;
  symbol_added = refl;
  relocation_added = refl;
  relocation_behind = refl;
  room = record {
    count = ltb-true (length (relocated 65534).relocations) 65535 refl;
    within = leb-true 4 (length (relocated 65534).bytes) refl;
  };
  place = (leb-true 1 32767 refl, leb-true 32767 32767 refl);
  index = tt;
}

pub counts_of_texts : CountsOfTexts
unfolding opened refusal renamed_refusal
counts_of_texts = record {
  long_line = refl;
  many_lines = refl;
  behind_others = refl;
  great_index = refl;
  great_index_of_nul = refl;
  great_index_of_asked = refl;
  great_index_of_type = refl;
  heap_above_32_bits = parses _ _ _ refl refl;
}
