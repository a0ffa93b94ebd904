-- Programs of DLLs in both flavours, by computing.
use Rattle.std.proofs.Common.{◌≡◌, List, ◌∷◌, refl, arith, true, ◌++◌}
use Rattle.std.specs.Prelude.{drop, if◌then◌else◌, take, not}
use Rattle.implib.specs.declared.machine.MachineType.TheVariants.{AMD64, ARM64, ARMNT, I386}
use Rattle.implib.specs.Machine.{is_32bit}
use Rattle.implib.specs.Link.Image.{with_address}
use Rattle.std.specs.Fmt.{digits}
use Rattle.implib.specs.Formats.Bytes.{u16_bytes, u32_bytes}
use Rattle.implib.specs.Members.Gnu.{export_object, five_digits, head_name, head_object, head_symbol, hint_name, iname_symbol, numbered_name, relocations_of_stub, relocations_of_thunk, mangled_name, stub, tail_name, tail_object, thunk}
use Rattle.implib.specs.Members.GnuMembers.{alias_specs, export_spec, head_spec, tail_spec}
use Rattle.implib.specs.Formats.Object.{before_nul, bytes_at, data_at, each_at, entries_at, name_of, object_in, object_of_header, relocation_at, relocation_of, section_at, section_of, strings_at, symbol_of, u16_at, u32_at, up_to_nul, Object}
use Rattle.implib.specs.Formats.Layout.{auxiliary_bytes, auxiliary_count, contents, contents_offset, contents_size, header_bytes, encoded, encoded_size, name_field, offsets_from, pointer_or_zero, record_count, records, relocation_bytes, section_header, section_headers, string_bytes_of, string_offsets, string_size, string_table, strings_size, symbol_bytes, symbol_table_offset}
use Rattle.implib.specs.Link.Placement.{next_multiple}
use Rattle.implib.specs.Formats.Writer.{long_names, name_location, layout_of, symbol_written, with_long_name, with_name}
use Rattle.implib.specs.Members.Members.{refusal, renamed_refusal}
use Rattle.implib.specs.Members.MsvcMembers.{descriptor_spec, header_specs, null_descriptor_spec, null_thunk_spec, weak_specs}
use Rattle.implib.specs.Members.MsvcObjects.{base_name, descriptor, descriptor_symbol, null_descriptor, null_descriptor_symbol, null_thunk, null_thunk_symbol}
use Rattle.implib.specs.Formats.ShortImport.{short_import_in}
use Rattle.implib.specs.Members.WeakExternal.{weak_object}
use Rattle.implib_link.specs.Flavors.Expansion.{import_object, descriptor_symbol_by_name, expanded_in, with_section_symbols}
use Rattle.implib_link.specs.Flavors.Program.{OfMember, all_members, symbols_listed, FlavorInput, IsFoundByName, dll_names_in, null_member, objects_taken, AreProgramObjects, has_tables, group_end, sections_end}
use Rattle.implib_link_instances.specs.Worked.Flavors.{WorkedFlavorProgram, WorkedFlavors, both_inputs, flavor_bases_4, flavor_bases_8, flavor_expected_4, flavor_expected_8, foo_input}
use Rattle.implib.specs.LibraryName.{linked_dll}
use Rattle.std.specs.List.{AllByRecursion, Contains, filter}
use Rattle.implib.specs.Members.MemberSpec.{MemberView}
use Rattle.implib.specs.declared.machine.MachineType.{MachineType}
use Rattle.implib.specs.declared.flavor.Flavor.TheVariants.{Msvc}
use Rattle.implib_link_instances.proofs.Worked.Programs.{distinct_by, admissible_by, all_differ, claim_none, all_claim_none}
use Rattle.implib_link_instances.proofs.Worked.Lemmas.{IsX86, differ}

-- what the computing has to open
unfoldable pub opened : Unit {0}
unfolding digits u16_bytes u32_bytes export_object five_digits head_name head_object head_symbol hint_name iname_symbol numbered_name relocations_of_stub relocations_of_thunk mangled_name stub tail_name tail_object thunk next_multiple with_address export_spec head_spec tail_spec before_nul bytes_at data_at each_at entries_at name_of object_in object_of_header relocation_at relocation_of section_at section_of strings_at symbol_of u16_at u32_at up_to_nul auxiliary_bytes auxiliary_count contents contents_offset contents_size header_bytes encoded name_field offsets_from pointer_or_zero record_count records relocation_bytes section_header section_headers string_bytes_of string_offsets string_size string_table strings_size symbol_bytes symbol_table_offset long_names name_location layout_of symbol_written with_long_name with_name
opened = tt

-- Objects may be linked with the members of inputs, by computing.
pub flavor_objects_by : {machine : MachineType} {inputs : List FlavorInput} {objects : List Object} (null_from : FlavorInput) (before behind : List MemberView) → Contains inputs null_from →
    AllByRecursion (λ p. IsFoundByName p.flavor (dll_names_in p)) inputs → null_from.flavor ≡ Msvc → all_differ (null_descriptor_symbol ∷ symbols_listed (all_members machine inputs)) ≡ true →
    before ++ behind ≡ all_members machine inputs → filter has_tables objects ≡ objects_taken machine (before ++ null_member machine (linked_dll null_from.input.definition) ∷ behind) →
    claim_none (null_descriptor_symbol ∷ symbols_listed (all_members machine inputs)) (filter (λ o. not (has_tables o)) objects) ≡ true → AreProgramObjects machine OfMember inputs objects
flavor_objects_by {machine} {inputs} {objects} null_from before behind held found flavor differ members tables none = grind (arith, distinct_by, differ, all_claim_none)

worked : (machine : MachineType) → IsX86 machine → WorkedFlavorProgram machine (if is_32bit machine then 2 else 0) (if is_32bit machine then flavor_bases_4 else flavor_bases_8) (if is_32bit machine then flavor_expected_4 else flavor_expected_8)
unfolding opened refusal renamed_refusal alias_specs encoded_size weak_object has_tables expanded_in short_import_in import_object descriptor_symbol_by_name with_section_symbols descriptor null_descriptor null_thunk descriptor_symbol null_descriptor_symbol null_thunk_symbol base_name descriptor_spec null_descriptor_spec null_thunk_spec header_specs weak_specs group_end sections_end
worked ARMNT none = absurd none
worked ARM64 none = absurd none
worked machine _ = record {
  made = (record { accepted = refl; made = refl; ordinals = refl }, (record { accepted = refl; made = refl; ordinals = refl }, tt));
  program = record {
    held = flavor_objects_by (foo_input machine) (take (if is_32bit machine then 2 else 0) (all_members machine (both_inputs machine))) (drop (if is_32bit machine then 2 else 0) (all_members machine (both_inputs machine))) (0, omega arith, refl) (refl, (tt, tt)) refl refl refl refl refl;
    admissible = admissible_by refl refl;
    lookups = refl;
    addresses = refl;
    follows = refl;
  };
  descriptors = refl;
  lookups = refl;
  addresses = refl;
  hints = refl;
  zed = refl;
  entries = refl;
  named = refl;
}

pub worked_flavors : WorkedFlavors
worked_flavors = record {
  amd64 = worked AMD64 tt;
  i386 = worked I386 tt;
}
