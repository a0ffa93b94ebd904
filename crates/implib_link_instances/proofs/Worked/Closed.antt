-- Closed programs that the linker's null descriptor ends, and a list of names in an object's place, by computing and by the laws.
use Rattle.std.proofs.Common.{rules, List, [], arith, codes, inl, inr, map, refl, ◌++◌, ◌∷◌}
use Rattle.std.specs.List.{AllByRecursion}
use Rattle.implib.specs.declared.machine.MachineType.TheVariants.{AMD64, I386}
use Rattle.implib.specs.Formats.Object.{Object}
use Rattle.implib.proofs.Link.LinkedMembers.{among_contains}
use Rattle.implib.proofs.Link.Ranges.{Among}
use Rattle.implib_link.specs.Flavors.Program.{AreEnded, OfLinker, gnu_input, ClaimsNone, HaveSame, group_end, packed_end, sections_end}
use Rattle.implib_link.specs.Search.Libraries.{AreClosed, AreGiven, IsClosed, IsFlavorArchive, NamesNoMembers, archive_of_both, inputs_in, left_in, TakesIntoFor, wanted_for}
use Rattle.implib_link.specs.Search.Search.{claims_of, listed_in, references_of, undefined_in, wanting}
use Rattle.implib_link_instances.specs.Worked.BothFlavors.{WorkedByLinker, with_far, zed_first, choosing, closed_bases, closed_objects, closed_taken}
use Rattle.implib_link_instances.specs.Worked.Programs.{both_inputs, program_objects, touching_4, touching_8}
use Rattle.implib_link_instances.specs.Worked.Wanting.{WorkedWanting, listed_names, quiet, with_names}
use Rattle.implib_link.proofs.Search.BothClosed.{closed_links_of_both, packed_both}
use Rattle.implib_link.proofs.Search.Lists.{contains_among}
use Rattle.implib_link.proofs.Search.Wanting.{program_with}
use Rattle.implib_link_instances.proofs.Worked.BothFlavors.{archive_by}
use Rattle.implib_link_instances.proofs.Worked.Search.{searched, below_limit, into_by}
use Rattle.implib_link_instances.proofs.Worked.Programs.{claims_none_by, worked_programs}

abbrev own : List Object
own = choosing ∷ []

turn : {X : Type 0} (x y z : X) → Among x (y ∷ z ∷ []) → Among x (z ∷ y ∷ [])
unfolding Among
turn x y z (inl e) = inr (inl e)
turn x y z (inr (inl e)) = inl e
turn x y z (inr (inr none)) = absurd none

swapped : {X : Type 0} (a b : X) → HaveSame (a ∷ b ∷ []) (b ∷ a ∷ [])
swapped a b x = grind (arith, among_contains, turn, contains_among)

archive : IsFlavorArchive AMD64 with_far
unfolding searched
archive = archive_by (record { accepted = refl; made = refl; ordinals = refl }, (record { accepted = refl; made = refl; ordinals = refl }, tt)) (record { accepted = refl; made = refl; ordinals = refl }, tt) (refl, tt) refl refl refl

claims : AllByRecursion (ClaimsNone (listed_in closed_taken ++ left_in AMD64 closed_taken)) own
unfolding searched
claims = (claims_none_by (listed_in closed_taken ++ left_in AMD64 closed_taken) choosing refl, tt)

takes : TakesIntoFor AMD64 (archive_of_both with_far) own closed_taken
unfolding searched
takes = into_by (codes "zed_dll_iname" ∷ codes "_head_zed_dll" ∷ codes "__imp_queue" ∷ codes "foo_dll_iname" ∷ codes "_head_foo_dll" ∷ codes "baz" ∷ codes "bar" ∷ []) refl refl refl claims

names : NamesNoMembers AMD64 with_far (wanted_for AMD64 own closed_taken)
unfolding searched
names = record { gnu = (record { head = refl; name = refl }, (record { head = refl; name = refl }, tt)); msvc = (record { descriptor = refl; null_descriptor = refl; null_thunk = refl }, tt) }

ended : AreEnded OfLinker AMD64 (inputs_in AMD64 zed_first own closed_taken) closed_objects
unfolding searched
ended = record { gnu = (refl, (refl, tt)); tables = refl }

closes : AreClosed AMD64 OfLinker with_far own closed_taken zed_first closed_objects
unfolding searched
closes = record { takes = takes; order = record { moves = (0, 2) ∷ []; below = (omega arith, omega arith, tt); is = refl }; others = swapped _ choosing; ended = ended; claims = claims; names = names }

closed : IsClosed AMD64 OfLinker with_far own closed_taken zed_first closed_bases closed_objects
unfolding searched group_end sections_end
closed = packed_both AMD64 OfLinker with_far own closed_taken zed_first 0x2000 closed_objects archive closes (omega arith) (below_limit (packed_end 0x2000 closed_objects) refl)

given : AreGiven AMD64 with_far own
unfolding searched
given = grind arith

pub worked_by_linker : WorkedByLinker
unfolding searched group_end sections_end
worked_by_linker = search (rules, archive, takes, closed, closed_links_of_both, given)

wanting_claims : AllByRecursion (ClaimsNone (listed_in closed_taken ++ left_in AMD64 closed_taken)) with_names
unfolding searched
wanting_claims = (claims_none_by (listed_in closed_taken ++ left_in AMD64 closed_taken) (wanting listed_names) refl, (claims_none_by (listed_in closed_taken ++ left_in AMD64 closed_taken) quiet refl, tt))

wanting_takes : TakesIntoFor AMD64 (archive_of_both with_far) with_names closed_taken
unfolding searched
wanting_takes = into_by (codes "zed_dll_iname" ∷ codes "_head_zed_dll" ∷ codes "__imp_queue" ∷ codes "foo_dll_iname" ∷ codes "_head_foo_dll" ∷ codes "baz" ∷ codes "bar" ∷ []) refl refl refl wanting_claims

pub worked_wanting : WorkedWanting
unfolding references_of claims_of undefined_in
worked_wanting = record {
  alone = refl;
  wanted = refl;
  had = refl;
  none = refl;
  common = refl;
  takes = wanting_takes;
  amd64 = program_with listed_names AMD64 touching_8 (program_objects AMD64) OfLinker (map gnu_input (both_inputs AMD64)) worked_programs.amd64.program;
  i386 = program_with (codes "_open" ∷ []) I386 touching_4 (program_objects I386) OfLinker (map gnu_input (both_inputs I386)) worked_programs.i386.program;
}
