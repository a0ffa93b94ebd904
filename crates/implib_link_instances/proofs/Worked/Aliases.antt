-- Programs of texts by hand, by computing and by the laws.
use Rattle.std.proofs.Common.{[], ◌∷◌, arith, map, refl, ◌≡◌, ℕ, ◌^◌, Bool, true, List, ◌++◌, codes, Option, Some, subst}
use Rattle.std.specs.List.{AllByRecursion, list_all}
use Rattle.implib.specs.declared.flavor.Flavor.TheVariants.{Msvc}
use Rattle.implib.specs.declared.machine.MachineType.{MachineType}
use Rattle.implib.specs.declared.machine.MachineType.TheVariants.{AMD64, ARM64, ARMNT, I386}
use Rattle.implib.specs.Formats.Layout.{encoded_size, entries_of, name_text, object_of}
use Rattle.implib.specs.Formats.ShortImport.{short_import_in}
use Rattle.implib.specs.Members.GnuMembers.{alias_specs}
use Rattle.implib.specs.Members.Members.{refusal, renamed_refusal}
use Rattle.implib.specs.Members.MsvcMembers.{descriptor_spec, header_specs, null_descriptor_spec, null_thunk_spec, weak_specs}
use Rattle.implib.specs.Members.MsvcObjects.{base_name, descriptor, descriptor_symbol, null_descriptor, null_descriptor_symbol, null_thunk, null_thunk_symbol}
use Rattle.implib.specs.Members.WeakExternal.{weak_object}
use Rattle.implib.specs.Text.Parses.{Parses}
use Rattle.implib.proofs.Worked.Statements.{opened as text_opened, parses}
use Rattle.implib_link.specs.Flavors.Expansion.{import_object, descriptor_symbol_by_name, expanded_in, with_section_symbols}
use Rattle.implib_link.specs.Flavors.Program.{OfMember, all_members, IsProgramOf, AreProgramObjects, IsProgram, has_tables, group_end, packed, packed_end, sections_end}
use Rattle.implib_link.specs.Flavors.Texts.{IsFlavorSource, input_of}
use Rattle.implib_link_instances.specs.Worked.Flavors.{WorkedSource, WorkedSources, both_sources, both_text_objects, foo_meant, foo_text, source_in, zed_meant, zed_text}
use Rattle.implib_link.proofs.Flavors.Program.{packed_objects, gnu_objects}
use Rattle.implib_link.proofs.Flavors.Texts.{texts_link}
use Rattle.implib_link_instances.proofs.Worked.Flavors.{opened, flavor_objects_by}
use Rattle.implib_link_instances.proofs.Worked.Programs.{distinct_by, claims_none_by, admissible_by, relocated_test}
use Rattle.implib_link_instances.proofs.Worked.Search.{below_limit}
use Rattle.implib_link_instances.proofs.Worked.Lemmas.{IsX86}
use Rattle.implib_link.specs.Gnu.Fields.{LinkedCode}
use Rattle.std.specs.Prelude.{if◌then◌else◌}
use Rattle.std.specs.Option.{option_and_then}
use Rattle.std.proofs.lemmas.Bool.{eqb-true}
use Rattle.implib.specs.Formats.Bytes.{u32_bytes}
use Rattle.implib.specs.Formats.Object.{ASymbol, Auxiliary, Entry, u32_at}
use Rattle.implib.specs.Import.{imp_symbol}
use Rattle.implib.specs.Link.Image.{image_of}
use Rattle.implib.specs.Link.Placement.{Placed}
use Rattle.implib.specs.Link.Resolution.{definitions_of, first_address, is_undefined_external}
use Rattle.implib.proofs.Link.Ranges.{apart_as_they_rise}
use Rattle.implib_link.specs.Gnu.Aliases.{ResolvesAliases, weak_target}
use Rattle.implib_link_instances.specs.Worked.OtherNames.{WorkedAlias, alias_codes, alias_objects, alias_placed, all_at, opened_name}
use Rattle.implib_link_instances.specs.Worked.Operands.{CodesBeside, code_ranges, linked_codes, as_placed}
use Rattle.implib_link_instances.specs.Worked.Programs.{both_inputs, touching_8}
use Rattle.implib_link.proofs.Tables.{weak_is_weak}
use Rattle.implib_link.proofs.Search.Lists.{among_at, contains_among, each_of}
use Rattle.implib_link_instances.proofs.Worked.Calls.{beside_by, codes_tested, is_at, resolved_at}

foo : (machine : MachineType) → IsX86 machine → Parses foo_text machine (foo_meant machine)
unfolding text_opened
foo ARMNT none = absurd none
foo ARM64 none = absurd none
foo machine _ = parses foo_text machine (foo_meant machine) refl refl

zed : (machine : MachineType) → IsX86 machine → Parses zed_text machine (zed_meant machine)
unfolding text_opened
zed ARMNT none = absurd none
zed ARM64 none = absurd none
zed machine _ = parses zed_text machine (zed_meant machine) refl refl

worked : (machine : MachineType) → IsX86 machine → WorkedSource machine
unfolding opened refusal renamed_refusal alias_specs encoded_size weak_object has_tables expanded_in short_import_in import_object descriptor_symbol_by_name with_section_symbols descriptor null_descriptor null_thunk descriptor_symbol null_descriptor_symbol null_thunk_symbol base_name descriptor_spec null_descriptor_spec null_thunk_spec header_specs weak_specs group_end sections_end
worked ARMNT none = absurd none
worked ARM64 none = absurd none
worked machine is = record {
  both = both;
  both_program = both_program;
  both_link = texts_link machine OfMember (packed 1 (both_text_objects machine)) (both_sources machine) (both_text_objects machine) both both_program;
}
  where
    both : AllByRecursion (IsFlavorSource machine) (both_sources machine)
    both = (
      record { of_text = record { parsed = foo_meant machine; parses = foo machine is; held = refl }; made = record { accepted = refl; made = refl; ordinals = refl } },
      (record { of_text = record { parsed = zed_meant machine; parses = zed machine is; held = refl }; made = record { accepted = refl; made = refl; ordinals = refl } }, tt),
    )

    objects : AreProgramObjects machine OfMember (map input_of (both_sources machine)) (both_text_objects machine)
    objects = flavor_objects_by (input_of (source_in Msvc machine foo_text (foo_meant machine) (1 ∷ 0 ∷ []))) [] (all_members machine (map input_of (both_sources machine))) (0, omega arith, refl) (refl, (tt, tt)) refl refl refl refl refl

    both_program : IsProgramOf machine OfMember (packed 1 (both_text_objects machine)) (map input_of (both_sources machine)) (both_text_objects machine)
    both_program =
        packed_objects machine OfMember 1 (map input_of (both_sources machine)) (both_text_objects machine) (record { accepted = refl; made = refl; ordinals = refl }, (record { accepted = refl; made = refl; ordinals = refl }, tt)) objects (omega arith) (below_limit (packed_end 1 (both_text_objects machine)) refl)

pub worked_sources : WorkedSources
worked_sources = record { amd64 = worked AMD64 tt; i386 = worked I386 tt }

-- The calls and the pointer by an alias by hand, by computing and by the law.

program : IsProgram AMD64 touching_8 (both_inputs AMD64) alias_objects
unfolding opened alias_specs encoded_size weak_object has_tables object_of entries_of name_text u32_bytes
program = grind (arith, gnu_objects, distinct_by, claims_none_by, admissible_by)

-- Where the targets of aliases are at one address, if anywhere, they are resolved to it.

abbrev address_of : List Placed → List ℕ → Option ℕ
address_of linked target = first_address (definitions_of target linked)

abbrev leads_to : ℕ → List Placed → Entry → Bool
leads_to address linked (Auxiliary bytes) = true
leads_to address linked (ASymbol s) =
    if is_undefined_external s then is_at address (option_and_then (address_of linked) (weak_target s.name linked)) else true

aliases_at : (linked : List Placed) (codes : List LinkedCode) (n : ℕ) → list_all (λ (c : LinkedCode). list_all (leads_to n linked) c.from.object.entries) codes ≡ true →
    ResolvesAliases linked codes (λ c index. n)
aliases_at linked codes n all c index address s target held at undefined none weak there =
    let own : list_all (leads_to n linked) c.from.object.entries ≡ true = grind (arith, contains_among c codes held, each_of) in
    let one : leads_to n linked (ASymbol s) ≡ true = each_of (leads_to n linked) (ASymbol s) c.from.object.entries own (among_at (ASymbol s) c.from.object.entries index at) in
    let two : is_at n (option_and_then (address_of linked) (weak_target s.name linked)) ≡ true = rw undefined at one in
    let three : is_at n (address_of linked target) ≡ true = subst (λ o. is_at n (option_and_then (address_of linked) o) ≡ true) weak two in
    eqb-true n address (subst (λ o. is_at n o ≡ true) there three)

beside : CodesBeside AMD64 0x1_4000_0000 touching_8 alias_objects alias_codes (all_at 0x80)
unfolding opened alias_specs encoded_size weak_object has_tables object_of entries_of name_text u32_bytes relocated_test codes_tested
beside =
    beside_by AMD64 0x1_4000_0000 touching_8 alias_objects alias_codes (all_at 0x80)
    (record {
      held = ((0, omega arith, refl), ((1, omega arith, refl), tt));
      sections = (refl, (refl, tt));
      ends = (omega arith, (omega arith, tt));
      apart = apart_as_they_rise (2 ^ 31) (image_of AMD64 touching_8 alias_placed ++ code_ranges AMD64 0x1_4000_0000 (all_at 0x80) alias_codes) refl;
      resolved = resolved_at alias_placed alias_codes (λ c. 0x80) refl refl;
    })
    refl

weak_is : weak_target opened_name alias_placed ≡ Some (imp_symbol (codes "open"))
unfolding opened alias_specs encoded_size weak_object has_tables object_of entries_of name_text u32_bytes u32_at
weak_is = refl

resolves : ResolvesAliases alias_placed (linked_codes AMD64 0x1_4000_0000 (all_at 0x80) alias_codes) (as_placed (all_at 0x80))
unfolding opened alias_specs encoded_size weak_object has_tables object_of entries_of name_text u32_bytes u32_at
resolves = aliases_at alias_placed (linked_codes AMD64 0x1_4000_0000 (all_at 0x80) alias_codes) 0x80 refl

undefined : definitions_of opened_name alias_placed ≡ []
unfolding opened alias_specs encoded_size weak_object has_tables object_of entries_of name_text u32_bytes
undefined = refl

pub worked_alias : WorkedAlias
unfolding opened alias_specs encoded_size weak_object has_tables object_of entries_of name_text u32_bytes u32_at
worked_alias = record {
  program = program;
  beside = beside;
  resolves = resolves;
  undefined = undefined;
  weak = weak_is;
  call_is = refl;
  load_is = refl;
  member = weak_is_weak AMD64 (codes "__imp_bar") (codes "__imp_baz") [] alias_placed;
}
