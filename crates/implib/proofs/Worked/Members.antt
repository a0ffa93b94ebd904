-- The worked members, by computing.
use Rattle.std.proofs.Common.{arith, ◌≡◌, ℕ, List, true, Ok, refl}
use Rattle.std.specs.Str.{is_utf8}
use Rattle.implib.specs.declared.machine.MachineType.{MachineType}
use Rattle.implib.specs.Formats.Bytes.{u16_bytes, u32_bytes}
use Rattle.implib.specs.Definition.{DefinitionView}
use Rattle.implib.specs.Views.Scanner.{lexemes_in}
use Rattle.implib.specs.Members.MsvcMembers.{descriptor_spec, header_specs, null_descriptor_spec, null_thunk_spec, weak_specs}
use Rattle.implib.specs.Members.Members.{refusal, renamed_refusal}
use Rattle.implib.specs.Members.MsvcObjects.{base_name, descriptor, descriptor_symbol, null_descriptor, null_descriptor_symbol, null_thunk, null_thunk_symbol}
use Rattle.implib.specs.Members.WeakExternal.{weak_object}
use Rattle.implib.specs.Formats.Layout.{auxiliary_bytes, auxiliary_count, contents, contents_offset, contents_size, header_bytes, encoded, encoded_size, name_field, offsets_from, pointer_or_zero, record_count, records, relocation_bytes, section_header, section_headers, string_bytes_of, string_offsets, string_size, string_table, strings_size, symbol_bytes, symbol_table_offset}
use Rattle.implib.specs.Views.TokenReader.{read}
use Rattle.implib.specs.Text.Token.{tokens_of}
use Rattle.implib.specs.Worked.Members.{Means, WorkedBytes, WorkedFields, WorkedMeanings, WorkedOutlines, WorkedRefusals}
use Rattle.implib.proofs.Worked.Statements.{opened as text_opened, parses}

-- what is read from a text is what it means
means : (P : DefinitionView → Type 0) (text : List ℕ) (machine : MachineType) (d : DefinitionView) →
    is_utf8 text ≡ true → read machine (tokens_of 0 (lexemes_in text)) ≡ Ok d → P d → Means text machine P
means P text machine d utf8 e holds = (d, parses text machine d utf8 e, holds)

-- what the computing has to open
abbrev opened : Unit {0}
unfolding text_opened base_name descriptor descriptor_symbol null_descriptor null_descriptor_symbol null_thunk null_thunk_symbol weak_object descriptor_spec header_specs null_descriptor_spec null_thunk_spec refusal renamed_refusal weak_specs auxiliary_bytes auxiliary_count contents contents_offset contents_size header_bytes encoded encoded_size name_field offsets_from pointer_or_zero record_count records relocation_bytes section_header section_headers string_bytes_of string_offsets string_size string_table strings_size symbol_bytes symbol_table_offset u16_bytes u32_bytes
opened = tt

pub worked_outlines : WorkedOutlines
unfolding opened
worked_outlines = record {
  one_function = means _ _ _ _ refl refl (record { accepted = refl; outlines = refl });
  one_function_32 = means _ _ _ _ refl refl (record { accepted = refl; outlines = refl });
  one_function_arm64 = means _ _ _ _ refl refl (record { accepted = refl; outlines = refl });
  with_underscore = means _ _ _ _ refl refl (record { accepted = refl; outlines = refl });
  no_export = means _ _ _ _ refl refl (record { accepted = refl; outlines = refl });
  data_alone = means _ _ _ _ refl refl (record { accepted = refl; outlines = refl });
  alias = means _ _ _ _ refl refl (record { accepted = refl; outlines = refl });
  own_alias = means _ _ _ _ refl refl (record { accepted = refl; outlines = refl });
  own_alias_with_underscore = means _ _ _ _ refl refl (record { accepted = refl; outlines = refl });
  decorated = means _ _ _ _ refl refl (record { accepted = refl; outlines = refl });
  private_nul = record { accepted = refl; outlines = refl };
  private_empty = record { accepted = refl; outlines = refl };
  symbol_name = record { accepted = refl; outlines = refl };
  underscore_by_ordinal = record { accepted = refl; outlines = refl };
  given_name = record { accepted = refl; outlines = refl };
  given_name_by_ordinal = record { accepted = refl; outlines = refl };
  upper_case = record { accepted = refl; outlines = refl };
  two_extensions = record { accepted = refl; outlines = refl };
}

pub worked_refusals : WorkedRefusals
unfolding opened
worked_refusals = record {
  no_import_name = means _ _ _ _ refl refl refl;
  nul_in_import_name = means _ _ _ _ refl refl refl;
  unclosed_quote = means _ _ _ _ refl refl refl;
  empty_name = means _ _ _ _ refl refl refl;
  empty_asked_name = means _ _ _ _ refl refl refl;
  nul_in_name = refl;
  nul_in_symbol_name = refl;
  nul_in_alias_target = refl;
  empty_external_name = refl;
  empty_name_and_nul = refl;
  counted = refl;
  nothing_asked = refl;
  no_name_type = refl;
  no_prefix_on_i386 = refl;
  no_prefix_on_armnt = refl;
  no_prefix_on_amd64 = refl;
  no_prefix_on_arm64 = refl;
  no_name_type_of_symbol_name = refl;
  nothing_given = refl;
  nothing_given_of_prefix = refl;
  nul_and_nothing_asked = refl;
  nul_in_asked_name = refl;
  nul_in_asked_name_by_ordinal = refl;
}

pub worked_meanings : WorkedMeanings
unfolding opened
worked_meanings = record {
  asked_on_i386 = means _ _ _ _ refl refl refl;
  undecorated = refl;
  given = refl;
  by_ordinal = means _ _ _ _ refl refl refl;
  alias = means _ _ _ _ refl refl refl;
  own_alias = means _ _ _ _ refl refl refl;
  no_alias = means _ _ _ _ refl refl refl;
}

pub worked_bytes : WorkedBytes
unfolding opened
worked_bytes = record {
  record_on_amd64 = means _ _ _ _ refl refl refl;
  short_import_with_symbol_name = refl;
  short_import_with_asked_name = refl;
  record_on_i386 = means _ _ _ _ refl refl refl;
  decorated_fields = means _ _ _ _ refl refl refl;
  ordinal_fields = means _ _ _ _ refl refl refl;
  hint = means _ _ _ _ refl refl refl;
  descriptor_header = means _ _ _ _ refl refl refl;
  descriptor_strings = means _ _ _ _ refl refl refl;
  weak_strings = means _ _ _ _ refl refl refl;
  weak_address_strings = means _ _ _ _ refl refl refl;
}

pub worked_fields : WorkedFields
unfolding opened
worked_fields = grind arith
