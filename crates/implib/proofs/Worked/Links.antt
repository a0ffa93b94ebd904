-- The members that were linked by hand, by computing.
use Rattle.std.proofs.Common.{◌≡◌, ◌∷◌, [], List, arith, codes, refl}
use Rattle.std.specs.Fmt.{digits}
use Rattle.std.specs.List.{IsDistinct}
use Rattle.implib.specs.Formats.Bytes.{u16_bytes, u32_bytes}
use Rattle.implib.specs.Members.Gnu.{export_object, five_digits, head_name, head_object, head_symbol, hint_name, iname_symbol, numbered_name, relocations_of_stub, relocations_of_thunk, mangled_name, stub, tail_name, tail_object, thunk}
use Rattle.implib.specs.Link.Image.{with_address}
use Rattle.implib.specs.Link.Placement.{next_multiple}
use Rattle.implib.specs.Members.GnuMembers.{alias_specs, export_spec, head_spec, tail_spec}
use Rattle.implib.specs.Members.Members.{refusal, renamed_refusal}
use Rattle.implib.specs.Formats.Object.{before_nul, bytes_at, data_at, each_at, entries_at, name_of, object_in, object_of_header, relocation_at, relocation_of, section_at, section_of, strings_at, symbol_of, u16_at, u32_at, up_to_nul}
use Rattle.implib.specs.Formats.Layout.{auxiliary_bytes, auxiliary_count, contents, contents_offset, contents_size, header_bytes, encoded, encoded_size, name_field, offsets_from, pointer_or_zero, record_count, records, relocation_bytes, section_header, section_headers, string_bytes_of, string_offsets, string_size, string_table, strings_size, symbol_bytes, symbol_table_offset}
use Rattle.implib.specs.Formats.Writer.{long_names, name_location, layout_of, symbol_written, with_long_name, with_name}
use Rattle.implib.specs.Worked.Links.{MayLink, InputsMayLink, WorkedLinks, bases_64, bases_of_two, foo, inputs_of_one_dll, inputs_of_one_name, placed, placed_of_one_dll, placed_two, two_inputs}
use Rattle.implib.specs.declared.machine.MachineType.TheVariants.{AMD64}
use Rattle.implib.specs.Link.Image.{Range, image_of}
use Rattle.implib.proofs.Link.Ranges.{apart_as_they_rise, ends_below}
use Rattle.std.specs.declared.cmp.Ordering.TheVariants.{Equal, Less}

-- what the computing has to open
abbrev opened : Unit {0}
unfolding digits u16_bytes u32_bytes export_object five_digits head_name head_object head_symbol hint_name iname_symbol numbered_name relocations_of_stub relocations_of_thunk mangled_name stub tail_name tail_object thunk next_multiple with_address export_spec head_spec tail_spec before_nul bytes_at data_at each_at entries_at name_of object_in object_of_header relocation_at relocation_of section_at section_of strings_at symbol_of u16_at u32_at up_to_nul auxiliary_bytes auxiliary_count contents contents_offset contents_size header_bytes encoded name_field offsets_from pointer_or_zero record_count records relocation_bytes section_header section_headers string_bytes_of string_offsets string_size string_table strings_size symbol_bytes symbol_table_offset long_names name_location layout_of symbol_written with_long_name with_name
opened = tt

abbrev both_image : List Range
both_image = image_of AMD64 bases_64 (placed (foo (codes "bar") (codes "baz")) AMD64 bases_64 (0 ∷ 1 ∷ []))

both_may_link : MayLink (foo (codes "bar") (codes "baz")) AMD64 bases_64 (0 ∷ 1 ∷ [])
unfolding opened refusal renamed_refusal alias_specs encoded_size IsDistinct
both_may_link = grind (arith, ends_below, apart_as_they_rise)

abbrev two_image : List Range
two_image = image_of AMD64 bases_of_two placed_two

two_may_link : InputsMayLink AMD64 bases_of_two two_inputs
unfolding opened refusal renamed_refusal alias_specs encoded_size IsDistinct
two_may_link = record {
  made = grind arith;
  rising = (refl, tt);
  apart = grind arith;
  distinct = ((refl, (refl, (refl, (refl, (refl, (refl, (refl, tt))))))), ((refl, (refl, (refl, (refl, (refl, (refl, tt)))))), ((refl, (refl, (refl, (refl, (refl, tt))))), ((refl, (refl, (refl, (refl, tt)))), ((refl, (refl, (refl, tt))), ((refl, (refl, tt)), ((refl, tt), (tt, tt))))))));
  admissible = grind (arith, ends_below, apart_as_they_rise);
}

abbrev one_dll_image : List Range
one_dll_image = image_of AMD64 bases_of_two placed_of_one_dll

two_of_one_dll_may_link : InputsMayLink AMD64 bases_of_two inputs_of_one_dll
unfolding opened refusal renamed_refusal alias_specs encoded_size IsDistinct
two_of_one_dll_may_link = record {
  made = grind arith;
  rising = (refl, tt);
  apart = grind arith;
  distinct = ((refl, (refl, (refl, (refl, (refl, (refl, (refl, tt))))))), ((refl, (refl, (refl, (refl, (refl, (refl, tt)))))), ((refl, (refl, (refl, (refl, (refl, tt))))), ((refl, (refl, (refl, (refl, tt)))), ((refl, (refl, (refl, tt))), ((refl, (refl, tt)), ((refl, tt), (tt, tt))))))));
  admissible = grind (arith, ends_below, apart_as_they_rise);
}

two_of_one_name_may_not : InputsMayLink AMD64 bases_of_two inputs_of_one_name → ⊥
unfolding opened
two_of_one_name_may_not may = (let equal : Equal ≡ Less = may.rising.0 in cc)

pub worked_links : WorkedLinks
unfolding opened
worked_links = grind (arith, two_may_link, both_may_link, two_of_one_dll_may_link, two_of_one_name_may_not)
