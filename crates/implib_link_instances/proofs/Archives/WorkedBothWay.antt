-- The whole way for libraries of both flavours by hand, by computing and by the laws.
use Rattle.std.proofs.Common.{[], arith, codes, refl, ℕ, ◌++◌, ◌∷◌}
use Rattle.std.specs.Prelude.{if◌then◌else◌, ◌==◌, ◌^◌}
use Rattle.std.specs.List.{AllByRecursion}
use Rattle.implib.specs.declared.flavor.Flavor.TheVariants.{Gnu, Msvc}
use Rattle.implib.specs.declared.machine.MachineType.TheVariants.{AMD64}
use Rattle.implib.specs.Worked.Statements.{plain_export}
use Rattle.implib_archive.specs.declared.kind.Kind.TheVariants.{Coff}
use Rattle.implib_link.specs.Archives.Ways.{AreLinkedFor, CallsArrive}
use Rattle.implib_link.specs.Archives.InBytes.{Second, HaveArchive}
use Rattle.implib_link_instances.specs.Archives.WorkedWays.{WorkedBothWay, bar_for_gnu, bases, before_null, both, calls_bar, calls_queue, linked, objects, own, placed, queue_for_msvc, taken}
use Rattle.implib_link.proofs.Archives.Ways.{both_arrive}
use Rattle.implib_link.proofs.Archives.InBytes.{search_of}
use Rattle.implib_link.specs.Flavors.Program.{AreEnded, FlavorInput, OfMember, ClaimsNone, group_end, sections_end}
use Rattle.implib_link.specs.Gnu.Fields.{PlacedCode}
use Rattle.implib_link.specs.Search.Libraries.{AreGiven, IsClosed, IsFlavorArchive, archive_of_both, inputs_in, left_in, TakesIntoFor}
use Rattle.implib_link.specs.Search.Search.{listed_in}
use Rattle.implib_link_instances.specs.Worked.Operands.{CodesBeside, as_placed, code_ranges, given_on, linked_codes}
use Rattle.implib_link_instances.specs.Worked.Search.{thunk_named}
use Rattle.implib.proofs.Link.Ranges.{apart_as_they_rise}
use Rattle.implib.specs.Link.Image.{image_of}
use Rattle.implib_link.proofs.Search.BothClosed.{packed_both}
use Rattle.implib_link.proofs.Search.Taken.{both_given_closes}
use Rattle.implib_link_instances.proofs.Worked.BothFlavors.{archive_by}
use Rattle.implib_link_instances.proofs.Worked.Calls.{beside_by, codes_tested, resolved_at, wide}
use Rattle.implib_link_instances.proofs.Worked.Programs.{claims_none_by, relocated_test}
use Rattle.implib_link_instances.proofs.Worked.Search.{searched, archived, below_limit, into_by}
use Rattle.implib_link.specs.Flavors.Expansion.{expanded_in}

archive : IsFlavorArchive AMD64 both
unfolding searched
archive = archive_by (record { accepted = refl; made = refl; ordinals = refl }, tt) (record { accepted = refl; made = refl; ordinals = refl }, tt) (refl, tt) refl refl refl

ready : HaveArchive Coff Second (archive_of_both both)
unfolding searched archived
ready = record { accepted = refl; has = tt }

given : AreGiven AMD64 both own
unfolding searched
given = grind arith

claims : AllByRecursion (ClaimsNone (listed_in taken ++ left_in AMD64 taken)) own
unfolding searched
claims = (claims_none_by (listed_in taken ++ left_in AMD64 taken) calls_bar refl, (claims_none_by (listed_in taken ++ left_in AMD64 taken) calls_queue refl, tt))

takes : TakesIntoFor AMD64 (archive_of_both both) own taken
unfolding searched
takes = into_by ((0x7F ∷ codes "zed_NULL_THUNK_DATA") ∷ codes "__NULL_IMPORT_DESCRIPTOR" ∷ codes "__IMPORT_DESCRIPTOR_zed" ∷ codes "__imp_queue" ∷ codes "foo_dll_iname" ∷ codes "_head_foo_dll" ∷ codes "__imp_bar" ∷ []) refl refl refl claims

abbrev bar_input : FlavorInput
bar_input = record { flavor = Gnu; input = record { definition = bar_for_gnu.library.definition; members = bar_for_gnu.library.members; chosen = 0 ∷ [] } }

abbrev queue_input : FlavorInput
queue_input = record { flavor = Msvc; input = record { definition = queue_for_msvc.library.definition; members = queue_for_msvc.library.members; chosen = 0 ∷ [] } }

ended : AreEnded OfMember AMD64 (inputs_in AMD64 both own taken) objects
unfolding searched
ended = record { null_from = queue_input; null_held = (1, omega arith, refl); null_flavor = refl; before = before_null; behind = thunk_named (codes "zed.dll") ∷ []; members = refl; tables = refl }

closed : IsClosed AMD64 OfMember both own taken both bases objects
unfolding searched group_end sections_end
closed = grind (arith, packed_both, archive, both_given_closes, given, takes, ended, below_limit)

linked_for : AreLinkedFor AMD64 OfMember both own taken both bases objects
unfolding searched
linked_for = grind (arith, ended, closed)

-- where the fields of each code lead
abbrev lead_to : PlacedCode → ℕ
lead_to c = if c.position == 0x3000 then 0x2060 else 0x2070

abbrev targets : PlacedCode → ℕ → ℕ
targets c index = lead_to c

beside : CodesBeside AMD64 0x1_4000_0000 bases objects placed targets
unfolding searched group_end sections_end relocated_test codes_tested
beside =
    beside_by AMD64 0x1_4000_0000 bases objects placed targets
    (record {
      held = ((0, omega arith, refl), ((1, omega arith, refl), tt));
      sections = (refl, (refl, tt));
      ends = (omega arith, (omega arith, tt));
      apart = apart_as_they_rise (2 ^ 31) (image_of AMD64 bases linked ++ code_ranges AMD64 0x1_4000_0000 targets placed) refl;
      resolved = resolved_at linked placed lead_to refl refl;
    })
    refl

arrive : CallsArrive AMD64 OfMember both own taken both bases objects
unfolding searched
arrive = both_arrive AMD64 OfMember both own taken both bases objects archive given takes linked_for

pub worked_both_way : WorkedBothWay
unfolding searched group_end sections_end
worked_both_way = record {
  archive = archive;
  ready = ready;
  given = given;
  leaves = refl;
  takes = search_of Coff Second (archive_of_both both) (expanded_in AMD64) own taken ready takes;
  linked_for = linked_for;
  bar_entry = refl;
  queue_entry = refl;
  arrive = (
    linked_codes AMD64 0x1_4000_0000 targets placed,
    (
      as_placed targets,
      (
        refl,
        (
          beside,
          λ n written reads. (
            arrive.ends (given_on AMD64) n written (wide AMD64) reads,
            arrive.leads 0x1_4000_0000 (linked_codes AMD64 0x1_4000_0000 targets placed) (as_placed targets) (given_on AMD64) n written 0 0 bar_input (plain_export (codes "bar")) tt beside (wide AMD64) reads refl refl,
            arrive.leads 0x1_4000_0000 (linked_codes AMD64 0x1_4000_0000 targets placed) (as_placed targets) (given_on AMD64) n written 1 0 queue_input (plain_export (codes "queue")) tt beside (wide AMD64) reads refl refl,
          ),
        ),
      ),
    ),
  );
}
