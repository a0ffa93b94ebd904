-- The worked members for GNU's linker, by computing.
use Rattle.std.proofs.Common.{arith, ◌≡◌, ℕ, List, true, Ok, refl}
use Rattle.std.specs.Str.{is_utf8}
use Rattle.implib.specs.declared.machine.MachineType.{MachineType}
use Rattle.implib.specs.Formats.Bytes.{u16_bytes, u32_bytes}
use Rattle.implib.specs.Members.GnuMembers.{alias_specs, export_spec, head_spec, tail_spec}
use Rattle.implib.specs.Members.Members.{refusal, renamed_refusal}
use Rattle.implib.specs.Members.Gnu.{export_object, five_digits, head_name, head_object, head_symbol, hint_name, iname_symbol, numbered_name, relocations_of_stub, relocations_of_thunk, mangled_name, stub, tail_name, tail_object, thunk}
use Rattle.implib.specs.Formats.Layout.{auxiliary_bytes, auxiliary_count, contents, contents_offset, encoded_size, header_bytes, encoded, name_field, offsets_from, pointer_or_zero, record_count, records, relocation_bytes, section_header, section_headers, string_bytes_of, string_offsets, string_size, string_table, strings_size, symbol_bytes, symbol_table_offset}
use Rattle.implib.specs.Formats.Layout.{contents_size as section_size}
use Rattle.std.specs.Fmt.{digits}
use Rattle.implib.specs.Formats.Writer.{long_names, name_location, layout_of, symbol_written, with_long_name, with_name}
use Rattle.implib.specs.Definition.{DefinitionView}
use Rattle.implib.specs.Views.Scanner.{lexemes_in}
use Rattle.implib.specs.Members.WeakExternal.{weak_object}
use Rattle.implib.specs.Views.TokenReader.{read}
use Rattle.implib.specs.Text.Token.{tokens_of}
use Rattle.implib.specs.Worked.Gnu.{WorkedGnuBytes, WorkedGnuOutlines, WorkedGnuRefusals}
use Rattle.implib.specs.Worked.Members.{Means}
use Rattle.implib.proofs.Worked.Statements.{opened as text_opened, parses}

-- what the computing has to open
unfoldable pub opened : Unit {0}
unfolding text_opened refusal renamed_refusal weak_object digits alias_specs export_spec head_spec tail_spec export_object five_digits head_name head_object head_symbol hint_name iname_symbol numbered_name relocations_of_stub relocations_of_thunk mangled_name stub tail_name tail_object thunk auxiliary_bytes auxiliary_count contents contents_offset section_size header_bytes encoded encoded_size name_field offsets_from pointer_or_zero record_count records relocation_bytes section_header section_headers string_bytes_of string_offsets string_size string_table strings_size symbol_bytes symbol_table_offset u16_bytes u32_bytes long_names name_location layout_of symbol_written with_long_name with_name
opened = tt

-- what is read from a text is what it means
pub means : (P : DefinitionView → Type 0) (text : List ℕ) (machine : MachineType) (d : DefinitionView) →
    is_utf8 text ≡ true → read machine (tokens_of 0 (lexemes_in text)) ≡ Ok d → P d → Means text machine P
means P text machine d utf8 e holds = (d, parses text machine d utf8 e, holds)

pub worked_gnu_outlines : WorkedGnuOutlines
unfolding opened
worked_gnu_outlines = record {
  one_function = means _ _ _ _ refl refl (record { accepted = refl; outlines = refl });
  one_function_i386 = means _ _ _ _ refl refl (record { accepted = refl; outlines = refl });
  one_function_arm = means _ _ _ _ refl refl refl;
  one_function_arm64 = means _ _ _ _ refl refl (record { accepted = refl; outlines = refl });
  numbered = means _ _ _ _ refl refl (record { accepted = refl; outlines = refl });
  private_nul = record { accepted = refl; outlines = refl };
  data_alone = means _ _ _ _ refl refl (record { accepted = refl; outlines = refl });
  alias = means _ _ _ _ refl refl (record { accepted = refl; outlines = refl });
  head_exported = means _ _ _ _ refl refl (record { accepted = refl; outlines = refl });
  underscore_by_ordinal = record { accepted = refl; outlines = refl };
  given_name = record { accepted = refl; outlines = refl };
}

pub worked_gnu_refusals : WorkedGnuRefusals
unfolding opened
worked_gnu_refusals = grind arith

pub worked_gnu_bytes : WorkedGnuBytes
unfolding opened
worked_gnu_bytes = record {
  hint_and_name = means _ _ _ _ refl refl refl;
  given_name = refl;
  strings = means _ _ _ _ refl refl refl;
  stub = means _ _ _ _ refl refl refl;
  stub_relocation_i386 = means _ _ _ _ refl refl refl;
  hint = means _ _ _ _ refl refl refl;
  ordinal_on_i386 = means _ _ _ _ refl refl refl;
  ordinal_size_on_i386 = means _ _ _ _ refl refl refl;
}
