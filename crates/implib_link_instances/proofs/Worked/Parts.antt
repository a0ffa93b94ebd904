-- Programs of libraries of GNU dlltool and of ours, by computing.
use Rattle.std.proofs.Common.{Bool, List, [], arith, codes, false, inl, map, refl, true, ◌++◌, ◌∷◌, ◌≡◌}
use Rattle.std.specs.Prelude.{bytes_eq, if◌then◌else◌, nat_le, ◌&&◌, ◌||◌}
use Rattle.std.specs.List.{AllByRecursion, list_all}
use Rattle.std.proofs.lemmas.Bool.{and_parts}
use Rattle.implib.specs.Formats.Constants.{amd64_rel32, class_external}
use Rattle.implib.specs.declared.machine.MachineType.{MachineType}
use Rattle.implib.specs.declared.machine.MachineType.TheVariants.{AMD64, I386}
use Rattle.implib.specs.Formats.Layout.{encoded_size}
use Rattle.implib.specs.Formats.Object.{Object}
use Rattle.implib.specs.Link.Image.{AllApart, AreApart, Range, image_of, range_end}
use Rattle.implib.specs.Link.LinkedMembers.{IsMade}
use Rattle.implib.specs.Link.Placement.{Bases, placed_from}
use Rattle.implib.specs.Members.GnuMembers.{alias_specs}
use Rattle.implib.specs.Members.ImportTables.{thunk_width}
use Rattle.implib.specs.Members.Members.{refusal, renamed_refusal}
use Rattle.implib.specs.Members.WeakExternal.{weak_object}
use Rattle.implib_link.specs.Gnu.Fields.{AreLinkedBeside, ranges_of_codes, HasInstruction}
use Rattle.implib_link.specs.Gnu.Moves.{AreInMemory}
use Rattle.implib_link.specs.Flavors.Program.{has_tables}
use Rattle.implib_link.specs.Parts.{AreEntries, BeginWithHead, IsPart, IsProgramOfParts, Part, stores_none}
use Rattle.implib_link.specs.Tables.{Table, Tables, packed_tables}
use Rattle.implib_link.proofs.Parts.Members.{members_are_part, members_store_none, parts_steady, older_part, older_stores_none}
use Rattle.implib_link.proofs.Parts.Programs.{parts_tables}
use Rattle.implib_link_instances.specs.Worked.Parts.{IsWritten, WorkedOlder, WorkedParts, WorkedReach, asking, gnu_bases, gnu_image, i386_gnu_bases, i386_gnu_image, i386_kernel, i386_older_objects, i386_older_parts, i386_older_zoo, i386_zoo, i386_zoo_objects, i386_zoo_parts, kernel, older_objects, older_parts, older_zoo, start_code, stub_code, table_at, zoo, zoo_codes, zoo_linked, zoo_memory, zoo_objects, zoo_parts, zoo_tables, zoo_targets}
use Rattle.implib_link_instances.specs.Worked.Programs.{symbol_of_class}
use Rattle.implib_link.proofs.Tables.{tables_lead_in_memory, tables_load_in_memory}
use Rattle.implib_link_instances.proofs.Worked.Programs.{relocated_by, relocated_test, meet_test, takes_outside, admissible_by, all_claim_none, all_hold_fields, distinct_by, instruction_by, opened}
use Rattle.implib.specs.Definition.{ExportView}
use Rattle.implib.specs.Members.OlderSymbols.{AreOlderMembersOf, older_object, older_refusal, older_renamed_refusal, older_spec}

pub written_by : (machine : MachineType) (bases : Bases) (parts : List Part) (objects : List Object) (written : List Range) (tables : List Table) → AllByRecursion (IsPart machine) parts →
    IsProgramOfParts machine bases parts objects → AllByRecursion (λ (p : Part). list_all (stores_none machine) p.objects ≡ true) parts → image_of machine bases (placed_from bases objects) ≡ written →
    packed_tables (thunk_width machine) bases.addresses (map (λ (p : Part). p.table) parts) ≡ tables → IsWritten machine bases parts objects written tables
written_by machine bases parts objects written tables are program stores image same = record {
  parts_are = are;
  program = program;
  image = image;
  tables_are = grind (arith, parts_tables machine bases parts objects are program, program);
  steady = parts_steady machine bases parts objects program stores;
}

-- The parts.

zoo_made : IsMade AMD64 zoo
unfolding opened refusal renamed_refusal alias_specs encoded_size weak_object
zoo_made = record { accepted = refl; made = refl; ordinals = refl }

i386_zoo_made : IsMade I386 i386_zoo
unfolding opened refusal renamed_refusal alias_specs encoded_size weak_object
i386_zoo_made = record { accepted = refl; made = refl; ordinals = refl }

pub kernel_is : IsPart AMD64 kernel
unfolding opened BeginWithHead AreEntries
kernel_is = record {
  objects = (
    record { row = record { lookups = 12; name = 15; addresses = 13 }; fields = refl; lookups = refl; addresses = refl; name = refl },
    (record { descriptors = refl; lookup = refl; address = refl; symbol = refl }, record { descriptors = refl; lookup = refl; address = refl }),
  );
  sized = all_hold_fields kernel.objects refl;
}

pub i386_kernel_is : IsPart I386 i386_kernel
unfolding opened BeginWithHead AreEntries
i386_kernel_is = record {
  objects = (
    record { row = record { lookups = 12; name = 15; addresses = 13 }; fields = refl; lookups = refl; addresses = refl; name = refl },
    (record { descriptors = refl; lookup = refl; address = refl; symbol = refl }, record { descriptors = refl; lookup = refl; address = refl }),
  );
  sized = all_hold_fields i386_kernel.objects refl;
}

pub kernel_stores : list_all (stores_none AMD64) kernel.objects ≡ true
unfolding opened
kernel_stores = refl

pub i386_kernel_stores : list_all (stores_none I386) i386_kernel.objects ≡ true
unfolding opened
i386_kernel_stores = refl

-- The programs.

gnu : IsProgramOfParts AMD64 gnu_bases zoo_parts zoo_objects
unfolding opened refusal renamed_refusal alias_specs encoded_size weak_object has_tables
gnu = grind (arith, distinct_by, all_claim_none, admissible_by)

i386_gnu : IsProgramOfParts I386 i386_gnu_bases i386_zoo_parts i386_zoo_objects
unfolding opened refusal renamed_refusal alias_specs encoded_size weak_object has_tables
i386_gnu = grind (arith, distinct_by, all_claim_none, admissible_by)

gnu_image_is : image_of AMD64 gnu_bases (placed_from gnu_bases zoo_objects) ≡ gnu_image
unfolding opened refusal renamed_refusal alias_specs encoded_size weak_object has_tables
gnu_image_is = refl

i386_gnu_image_is : image_of I386 i386_gnu_bases (placed_from i386_gnu_bases i386_zoo_objects) ≡ i386_gnu_image
unfolding opened refusal renamed_refusal alias_specs encoded_size weak_object has_tables
i386_gnu_image_is = refl

pub zoo_are : AllByRecursion (IsPart AMD64) zoo_parts
zoo_are = (kernel_is, (members_are_part AMD64 zoo zoo_made, tt))

pub zoo_stores : AllByRecursion (λ (p : Part). list_all (stores_none AMD64) p.objects ≡ true) zoo_parts
zoo_stores = (kernel_stores, (members_store_none AMD64 zoo zoo_made, tt))

i386_zoo_are : AllByRecursion (IsPart I386) i386_zoo_parts
i386_zoo_are = (i386_kernel_is, (members_are_part I386 i386_zoo i386_zoo_made, tt))

i386_zoo_stores : AllByRecursion (λ (p : Part). list_all (stores_none I386) p.objects ≡ true) i386_zoo_parts
i386_zoo_stores = (i386_kernel_stores, (members_store_none I386 i386_zoo i386_zoo_made, tt))

pub worked_parts : WorkedParts
worked_parts = record {
  gnu = written_by AMD64 gnu_bases zoo_parts zoo_objects gnu_image _ zoo_are gnu zoo_stores gnu_image_is refl;
  i386_gnu = written_by I386 i386_gnu_bases i386_zoo_parts i386_zoo_objects i386_gnu_image _ i386_zoo_are i386_gnu i386_zoo_stores i386_gnu_image_is refl;
}

-- The code.

unfoldable pub is_apart : Range → Range → Bool
is_apart r s = nat_le (range_end r) s.start || nat_le (range_end s) r.start

apart_by_test : (r s : Range) → is_apart r s ≡ true → AreApart r s
unfolding is_apart
apart_by_test r s test = grind arith

each_apart : (r : Range) (rs : List Range) → list_all (is_apart r) rs ≡ true → AllByRecursion (AreApart r) rs
each_apart r [] test = tt
each_apart r (s ∷ rs) test = let parts = and_parts (is_apart r s) (list_all (is_apart r) rs) test in (apart_by_test r s parts.0, each_apart r rs parts.1)

unfoldable pub all_apart_test : List Range → Bool
all_apart_test [] = true
all_apart_test (r ∷ rs) = list_all (is_apart r) rs && all_apart_test rs

pub all_apart : (rs : List Range) → all_apart_test rs ≡ true → AllApart rs
unfolding all_apart_test
all_apart [] test = tt
all_apart (r ∷ rs) test = let parts = and_parts (list_all (is_apart r) rs) (all_apart_test rs) test in (each_apart r rs parts.0, all_apart rs parts.1)

code_beside : AreLinkedBeside AMD64 0x1_4000_0000 gnu_image zoo_linked zoo_codes zoo_targets
unfolding opened refusal renamed_refusal alias_specs encoded_size weak_object relocated_test meet_test is_apart all_apart_test
code_beside = record {
  held = ((0, omega arith, refl), ((5, omega arith, refl), tt));
  sections = (refl, (refl, tt));
  ends = (omega arith, (omega arith, tt));
  apart = all_apart (gnu_image ++ ranges_of_codes zoo_codes) refl;
  relocated = grind (arith, relocated_by AMD64 0x1_4000_0000 (zoo_targets start_code) 0x1000 start_code.code start_code.bytes refl, relocated_by AMD64 0x1_4000_0000 (zoo_targets stub_code) 0x1030 stub_code.code stub_code.bytes refl);
  resolved = takes_outside (λ name. if bytes_eq name (codes ".data") then 0x2000 else 0x1030) zoo_linked zoo_codes refl;
}

code_in_memory : AreInMemory AMD64 0x1_4000_0000 gnu_image zoo_linked zoo_codes zoo_targets zoo_memory
code_in_memory = inl (code_beside, refl)

call_is : HasInstruction AMD64 start_code 5 (0xFF ∷ 0x15 ∷ []) [] (codes "__imp_zoo_open")
unfolding opened
call_is =
    instruction_by amd64_rel32 11 (0 ∷ 0 ∷ 0 ∷ 0 ∷ [])
    (record { symbol = symbol_of_class (codes "__imp_zoo_open") 0 class_external; target = refl; undefined = refl; named = refl }) (0, (omega arith, (refl, refl))) refl refl refl

jump_is : HasInstruction AMD64 start_code 34 (0xFF ∷ 0x25 ∷ []) [] (codes "__imp_ExitProcess")
unfolding opened
jump_is =
    instruction_by amd64_rel32 12 (0 ∷ 0 ∷ 0 ∷ 0 ∷ [])
    (record { symbol = symbol_of_class (codes "__imp_ExitProcess") 0 class_external; target = refl; undefined = refl; named = refl }) (0, (omega arith, (refl, refl))) refl refl refl

abbrev tables : Tables
tables = record { image = gnu_image; linked = zoo_linked; directory = 0x3000; tables = zoo_tables 0x3060 0x3070 }

pub worked_reach : WorkedReach
unfolding opened refusal renamed_refusal alias_specs encoded_size weak_object
worked_reach = record {
  at = code_in_memory;
  call = call_is;
  jump = jump_is;
  arrive = λ gives n written wide reads.
      let load = tables_load_in_memory AMD64 0x1_4000_0000 tables zoo_codes zoo_targets zoo_memory gives worked_parts.gnu.tables_are worked_parts.gnu.steady code_in_memory n written wide reads in
      let of_zoo = tables_lead_in_memory AMD64 0x1_4000_0000 tables zoo_codes zoo_targets zoo_memory gives worked_parts.gnu.tables_are worked_parts.gnu.steady code_in_memory n written wide reads
      1 0 (table_at (codes "zoo.dll") 0x3070 (asking (codes "zoo_open") 0 (codes "__imp_zoo_open") ∷ [])) (asking (codes "zoo_open") 0 (codes "__imp_zoo_open")) (codes "__imp_zoo_open") refl refl refl tt in
      let of_kernel = tables_lead_in_memory AMD64 0x1_4000_0000 tables zoo_codes zoo_targets zoo_memory gives worked_parts.gnu.tables_are worked_parts.gnu.steady code_in_memory n written wide reads
      0 0 (table_at (codes "kernel32.dll") 0x3060 (asking (codes "ExitProcess") 1 (codes "__imp_ExitProcess") ∷ [])) (asking (codes "ExitProcess") 1 (codes "__imp_ExitProcess")) (codes "__imp_ExitProcess") refl refl refl tt in
      (load.0, (of_zoo.instructions start_code 5 (0xFF ∷ 0x15 ∷ []) [] (0, omega arith, refl) call_is, of_kernel.instructions start_code 34 (0xFF ∷ 0x25 ∷ []) [] (0, omega arith, refl) jump_is));
}

made : AreOlderMembersOf older_zoo.definition AMD64 older_zoo.members
unfolding opened older_refusal older_renamed_refusal older_spec older_object alias_specs encoded_size weak_object
made = record { accepted = refl; made = refl; ordinals = refl }

are_parts : (older : ExportView → Bool) → AllByRecursion (IsPart AMD64) (older_parts older)
are_parts older = (kernel_is, (older_part AMD64 older_zoo made older, tt))

store_none : (older : ExportView → Bool) → AllByRecursion (λ (p : Part). list_all (stores_none AMD64) p.objects ≡ true) (older_parts older)
store_none older = (kernel_stores, (older_stores_none AMD64 older_zoo made older, tt))

program : (older : ExportView → Bool) → IsProgramOfParts AMD64 gnu_bases (older_parts older) older_objects
unfolding opened older_refusal older_renamed_refusal older_spec older_object alias_specs encoded_size weak_object has_tables
program older = grind (arith, distinct_by, all_claim_none, admissible_by)

image_is : image_of AMD64 gnu_bases (placed_from gnu_bases older_objects) ≡ gnu_image
unfolding opened older_refusal older_renamed_refusal older_spec older_object alias_specs encoded_size weak_object has_tables
image_is = refl

i386_made : AreOlderMembersOf i386_older_zoo.definition I386 i386_older_zoo.members
unfolding opened older_refusal older_renamed_refusal older_spec older_object alias_specs encoded_size weak_object
i386_made = record { accepted = refl; made = refl; ordinals = refl }

i386_program : IsProgramOfParts I386 i386_gnu_bases i386_older_parts i386_older_objects
unfolding opened older_refusal older_renamed_refusal older_spec older_object alias_specs encoded_size weak_object has_tables
i386_program = grind (arith, distinct_by, all_claim_none, admissible_by)

i386_image_is : image_of I386 i386_gnu_bases (placed_from i386_gnu_bases i386_older_objects) ≡ i386_gnu_image
unfolding opened older_refusal older_renamed_refusal older_spec older_object alias_specs encoded_size weak_object has_tables
i386_image_is = refl

pub worked_older : WorkedOlder
unfolding opened
worked_older = record {
  made = made;
  older = written_by AMD64 gnu_bases (older_parts (λ e. true)) older_objects gnu_image _ (are_parts (λ e. true)) (program (λ e. true)) (store_none (λ e. true)) image_is refl;
  today = written_by AMD64 gnu_bases (older_parts (λ e. false)) older_objects gnu_image _ (are_parts (λ e. false)) (program (λ e. false)) (store_none (λ e. false)) image_is refl;
  i386_made = i386_made;
  i386_older = written_by I386 i386_gnu_bases i386_older_parts i386_older_objects i386_gnu_image _ (i386_kernel_is, (older_part I386 i386_older_zoo i386_made (λ e. true), tt)) i386_program
      (i386_kernel_stores, (older_stores_none I386 i386_older_zoo i386_made (λ e. true), tt)) i386_image_is refl;
}
