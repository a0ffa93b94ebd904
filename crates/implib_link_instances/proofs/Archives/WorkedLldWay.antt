-- The way for lld by hand, by computing and by the law.
use Rattle.std.proofs.Common.{ℕ, List, ◌≡◌, [], ◌∷◌, codes, refl, ap, inl, inr, arith}
use Rattle.implib.specs.declared.machine.MachineType.TheVariants.{AMD64}
use Rattle.implib.specs.Formats.Constants.{amd64_rel32, class_external}
use Rattle.implib.specs.Formats.Layout.{encoded_size}
use Rattle.implib.specs.Members.Members.{refusal, renamed_refusal}
use Rattle.implib.specs.Members.MsvcMembers.{descriptor_spec, header_specs, null_descriptor_spec, null_thunk_spec, weak_specs}
use Rattle.implib.specs.Members.MsvcObjects.{base_name, descriptor, descriptor_symbol, null_descriptor, null_descriptor_symbol, null_thunk, null_thunk_symbol}
use Rattle.implib.specs.Worked.Statements.{plain_export}
use Rattle.implib.proofs.Link.LinkedMembers.{among_contains}
use Rattle.implib.proofs.Link.Ranges.{Among}
use Rattle.implib_archive.specs.declared.kind.Kind.TheVariants.{Coff}
use Rattle.implib_link.specs.Archives.InBytes.{Second, HaveArchive}
use Rattle.implib_link.specs.Archives.Ways.{AreCalledAlike, IsBuiltByLld, IsWantedBy, LldArrives, read_by_lld, shorts_in, LldLoads}
use Rattle.implib_link_instances.specs.Archives.WorkedWays.{WorkedLldWay, bar_short, calls_linked, is_live, live_shorts, lld_codes, lld_image, lld_libraries, lld_library, lld_linked, lld_memory, lld_own, lld_tables, lld_taken, lld_targets, placed_calls, thunk_linked, two_calls}
use Rattle.implib_link.proofs.Archives.InBytes.{search_of}
use Rattle.implib_link.proofs.Archives.Ways.{lld_arrives}
use Rattle.implib_link.specs.Flavors.Expansion.{descriptor_symbol_by_name, expanded_in, import_object, with_section_symbols}
use Rattle.implib_link.specs.Flavors.LldImports.{imports_of_lld, ArePiecesAt, built, built_bytes, placed_thunk, thunk_section}
use Rattle.implib_link.specs.Gnu.Fields.{AreLinkedBeside, range_of_code, HasBranch, HasInstruction}
use Rattle.implib_link.specs.Gnu.Moves.{AreInMemory, AreMoved}
use Rattle.implib_link.specs.Search.Search.{archive_of, AreTakenIntoAs, TakesIntoAs, claims_of, references_of, undefined_in}
use Rattle.implib_link.specs.Search.Libraries.{IsMsvcArchive, symbols_of_shorts}
use Rattle.implib_link.specs.Tables.{AreSteady}
use Rattle.implib_link_instances.specs.Worked.Operands.{given_on}
use Rattle.implib_link_instances.specs.Worked.Search.{short_named}
use Rattle.implib_link_instances.specs.Worked.Programs.{symbol_of_class}
use Rattle.implib_link.proofs.Flavors.LldImports.{built_pieces}
use Rattle.implib_link_instances.proofs.Worked.Calls.{wide}
use Rattle.implib_link_instances.proofs.Worked.CommandLines.{ended_by, pulls_by}
use Rattle.implib_link_instances.proofs.Worked.Programs.{all_needed, only_absolute, rebased_by, relocated_by, relocated_test, lld_opened, disjoint, meet_test, distinct_by, opened, instruction_by}
use Rattle.implib_link_instances.proofs.Worked.Search.{archived}
use Rattle.implib_link.specs.Gnu.Writing.{ReadsAndWrites}
use Rattle.implib.specs.Members.ImportTables.{thunk_width}
use Rattle.implib.specs.Link.Image.{Range}

-- what the computing has to open
unfoldable way_opened : Unit {0}
unfolding opened lld_opened refusal renamed_refusal encoded_size expanded_in import_object descriptor_symbol_by_name with_section_symbols descriptor null_descriptor null_thunk descriptor_symbol null_descriptor_symbol null_thunk_symbol base_name descriptor_spec null_descriptor_spec null_thunk_spec header_specs weak_specs undefined_in references_of claims_of archive_of symbols_of_shorts
way_opened = tt

archive : IsMsvcArchive AMD64 lld_libraries
unfolding way_opened
archive = grind (arith, distinct_by)

alike : AreCalledAlike lld_libraries
unfolding Among
alike l k first second same = grind arith

ready : HaveArchive Coff Second (archive_of lld_libraries)
unfolding way_opened archived
ready = record { accepted = refl; has = tt }

takes : TakesIntoAs (read_by_lld AMD64) (archive_of lld_libraries) lld_own lld_taken
unfolding way_opened read_by_lld AreTakenIntoAs
takes = record {
  in_turn = ((codes "bar", pulls_by (read_by_lld AMD64) (archive_of lld_libraries) lld_own [] (codes "bar") (short_named (codes "foo.dll") (codes "bar")) refl refl refl), tt);
  ended = ended_by (read_by_lld AMD64) (archive_of lld_libraries) lld_own lld_taken refl;
}

wanted : IsWantedBy AMD64 lld_libraries lld_own lld_taken lld_library (plain_export (codes "bar"))
unfolding way_opened read_by_lld
wanted = record { library = (0, omega arith, refl); export = (0, omega arith, refl); plain = refl; name = codes "__imp_bar"; listed = (0, omega arith, refl); left = (0, omega arith, refl); unclaimed = refl }

read : shorts_in AMD64 lld_taken ≡ bar_short ∷ []
unfolding way_opened
read = refl

written : built_bytes AMD64 0x2000 (imports_of_lld live_shorts) ≡ lld_tables
unfolding way_opened
written = refl

pieces : ArePiecesAt AMD64 lld_image 0x2000 0x2028 0x2038 0x2048 0x204E (imports_of_lld live_shorts)
unfolding way_opened Among
pieces =
    built_pieces AMD64 0x2000 (imports_of_lld live_shorts) lld_image (tt, tt)
    (among_contains (built AMD64 0x2000 (imports_of_lld live_shorts)) lld_image (inl (ap (λ bytes. record { start = 0x2000; bytes = bytes }) written)))

built_by_lld : IsBuiltByLld AMD64 0x2000 0x2038 live_shorts lld_image lld_linked
unfolding way_opened
built_by_lld = record {
  before = placed_calls ∷ [];
  behind = placed_thunk AMD64 bar_short ∷ [];
  placed = refl;
  none_before = (refl, tt);
  none_behind = (refl, tt);
  lookups = 0x2028;
  hints = 0x2048;
  names = 0x204E;
  pieces = pieces;
  starts = (omega arith, tt);
  ends = (omega arith, tt);
}

steady : AreSteady AMD64 lld_linked
unfolding way_opened
steady = refl

beside : AreLinkedBeside AMD64 0x1_4000_0000 lld_image lld_linked lld_codes lld_targets
unfolding way_opened relocated_test meet_test
beside =
    grind (arith, disjoint (record { start = 0x2000; bytes = lld_tables }) (range_of_code calls_linked) (inr (omega arith)), disjoint (record { start = 0x2000; bytes = lld_tables }) (range_of_code thunk_linked) (inr (omega arith)), disjoint (range_of_code calls_linked) (range_of_code thunk_linked) (inl (omega arith)), relocated_by AMD64 0x1_4000_0000 (lld_targets calls_linked) 0x1000 two_calls calls_linked.bytes refl, relocated_by AMD64 0x1_4000_0000 (lld_targets thunk_linked) 0x1010 (thunk_section AMD64) thunk_linked.bytes refl)

at : AreInMemory AMD64 0x1_4000_0000 lld_image lld_linked lld_codes lld_targets lld_memory
at = inl (beside, refl)

moves : AreMoved AMD64 0x1_4000_0000 0x7FF6_1234_0000 lld_image lld_linked lld_codes lld_targets [] lld_memory
unfolding way_opened
moves = grind (arith, beside, all_needed, only_absolute, rebased_by)

moved : AreInMemory AMD64 0x7FF6_1234_0000 lld_image lld_linked lld_codes lld_targets lld_memory
moved = inr (0x1_4000_0000, ([], (tt, moves)))

call : HasInstruction AMD64 calls_linked 0 (0xFF ∷ 0x15 ∷ []) [] (codes "__imp_bar")
call = instruction_by amd64_rel32 1 (0 ∷ 0 ∷ 0 ∷ 0 ∷ []) (record { symbol = symbol_of_class (codes "__imp_bar") 0 class_external; target = refl; undefined = refl; named = refl }) (0, (omega arith, (refl, refl))) refl refl refl

branch : HasBranch AMD64 calls_linked 7 0 (codes "bar")
branch = record {
  type = amd64_rel32;
  field = record {
    symbol = 2;
    alone = refl;
    inside = omega arith;
    names = record { symbol = symbol_of_class (codes "bar") 0 class_external; target = refl; undefined = refl; named = refl };
  };
  counts = (0, (omega arith, (refl, refl)));
  within = omega arith;
}

arrive : LldArrives AMD64 lld_libraries lld_own lld_taken
arrive = lld_arrives AMD64 lld_libraries archive alike lld_own lld_taken takes

loaded_at : (image_base : ℕ) → AreInMemory AMD64 image_base lld_image lld_linked lld_codes lld_targets lld_memory → (n : ℕ) (written : List Range) →
    ReadsAndWrites lld_memory (thunk_width AMD64) (given_on AMD64) n 0x2000 written → LldLoads AMD64 lld_libraries lld_own lld_taken is_live 0x2000 0x2038 lld_image lld_linked image_base lld_codes lld_memory (given_on AMD64) n written
loaded_at image_base at n written reads =
    arrive.loaded is_live 0x2000 0x2038 lld_image lld_linked built_by_lld image_base lld_codes lld_targets lld_memory (given_on AMD64) steady at n written (wide AMD64) reads

pub worked_lld_way : WorkedLldWay
unfolding way_opened
worked_lld_way = record {
  archive = archive;
  alike = alike;
  ready = ready;
  takes = search_of Coff Second (archive_of lld_libraries) (read_by_lld AMD64) lld_own lld_taken ready takes;
  wanted = wanted;
  read = read;
  built = built_by_lld;
  steady = steady;
  at = at;
  moved = moved;
  thunk = record { from = refl; number = refl };
  call = call;
  branch = branch;
  leads = λ n written reads. let loaded = loaded_at 0x1_4000_0000 at n written reads in (loaded.count, loaded.leads lld_library (plain_export (codes "bar")) wanted refl tt);
  leads_moved = λ n written reads. (loaded_at 0x7FF6_1234_0000 moved n written reads).leads lld_library (plain_export (codes "bar")) wanted refl tt;
  calls = λ n written reads.
      (loaded_at 0x1_4000_0000 at n written reads).calls lld_library (plain_export (codes "bar")) wanted refl tt
      calls_linked thunk_linked 7 0 (0, omega arith, refl) (1, omega arith, refl) (record { from = refl; number = refl }) branch tt;
}
