-- The closed program of both flavours that was linked by hand, by computing and by the laws.
use Rattle.std.proofs.Common.{List, [], arith, codes, false, map, refl, sym, true, ℕ, ◌++◌, ◌∙◌, ◌∷◌, ◌≡◌}
use Rattle.std.specs.Prelude.{IsPermutation, bytes_eq, not}
use Rattle.std.specs.List.{AllByRecursion, Contains, filter, flat_map, list_all, list_any}
use Rattle.std.proofs.lemmas.Bool.{true≢false}
use Rattle.implib.specs.declared.flavor.Flavor.TheVariants.{Msvc}
use Rattle.implib.specs.declared.machine.MachineType.TheVariants.{AMD64}
use Rattle.implib.specs.Formats.Object.{Object}
use Rattle.implib.specs.Members.MemberSpec.{MemberView}
use Rattle.implib.specs.Members.MsvcObjects.{descriptor_symbol, null_descriptor_symbol}
use Rattle.implib.proofs.Link.LinkedMembers.{among_map}
use Rattle.implib_link.specs.Flavors.Program.{AreEnded, Ending, FlavorInput, OfMember, objects_taken, ClaimsNone, has_tables, group_end, packed_end, sections_end}
use Rattle.implib_link.specs.Search.Search.{IsArchive, IsLibrary, symbols_of_library, listed_in}
use Rattle.implib_link.specs.Search.Libraries.{AreClosed, AreGiven, FlavorLibrary, IsClosed, IsFlavorArchive, NamesNoMembers, archive_of_both, gnu_among, inputs_in, msvc_among, LinksClosed, left_in, IsMsvcArchive, IsMsvcLibrary, TakesIntoFor, symbols_of_all_shorts, symbols_of_shorts, wanted_for, weak_in}
use Rattle.implib_link_instances.specs.Worked.BothFlavors.{WorkedBoth, WorkedGiven, foo_and_zed, mixed_bases, mixed_objects, mixed_taken, zed_and_foo, choosing, foo_linked}
use Rattle.implib_link_instances.specs.Worked.Search.{msvc_zed, zed_members}
use Rattle.implib_link.proofs.Search.BothClosed.{closed_links_of_both, packed_both}
use Rattle.implib_link.proofs.Search.Ends.{into_ends, search_bounded}
use Rattle.implib_link.proofs.Search.Lists.{among_any, contains_among}
use Rattle.implib_link_instances.proofs.Worked.Search.{searched, below_limit, into_by}
use Rattle.implib_link_instances.proofs.Worked.Programs.{all_differ, claims_none_by, distinct_by}
use Rattle.implib_link.specs.Flavors.Expansion.{descriptor_symbol_by_name, expanded_in}
use Rattle.implib.specs.LibraryName.{linked_dll}
use Rattle.implib.specs.declared.machine.MachineType.{MachineType}

abbrev own : List Object
own = choosing ∷ []

-- no name of the ones is one of the others
pub apart_by : (others texts : List (List ℕ)) → list_all (λ name. not (list_any (bytes_eq name) others)) texts ≡ true → AllByRecursion (λ name. list_any (bytes_eq name) others ≡ false) texts
apart_by others [] all = tt
apart_by others (name ∷ texts) all = grind (arith, apart_by others texts)

-- Libraries are an archive of both flavours, by computing.
pub archive_by : {machine : MachineType} {libraries : List FlavorLibrary} → AllByRecursion (IsLibrary machine) (gnu_among libraries) → AllByRecursion (IsMsvcLibrary machine) (msvc_among libraries) →
    AllByRecursion (λ l. descriptor_symbol_by_name l.definition.import_name ≡ descriptor_symbol (linked_dll l.definition)) (msvc_among libraries) →
    all_differ (flat_map (symbols_of_library machine) (gnu_among libraries)) ≡ true → all_differ (null_descriptor_symbol ∷ flat_map symbols_of_shorts (msvc_among libraries)) ≡ true →
    list_all (λ name. not (list_any (bytes_eq name) (symbols_of_all_shorts (msvc_among libraries)))) (flat_map (symbols_of_library machine) (gnu_among libraries)) ≡ true →
    IsFlavorArchive machine libraries
archive_by {machine} {libraries} gnu_made msvc_made found gnu_differ msvc_differ apart = grind (arith, distinct_by, apart_by)

-- Objects that close a program, which are linked in the order of what is given and taken, by computing.
pub closed_by : {machine : MachineType} {ending : Ending} {libraries : List FlavorLibrary} {own : List Object} {taken : List MemberView} {arranged : List FlavorLibrary} {objects : List Object} →
    TakesIntoFor machine (archive_of_both libraries) own taken → IsPermutation libraries arranged → filter (λ o. not (has_tables o)) objects ≡ own ++ objects_taken machine (weak_in machine taken) →
    AreEnded ending machine (inputs_in machine arranged own taken) objects → AllByRecursion (ClaimsNone (listed_in taken ++ left_in machine taken)) own → NamesNoMembers machine libraries (wanted_for machine own taken) →
    AreClosed machine ending libraries own taken arranged objects
closed_by {machine} {ending} {libraries} {own} {taken} {arranged} {objects} takes order others ended claims names = grind arith

pub gnu_archive : IsArchive AMD64 (gnu_among foo_and_zed)
unfolding searched
gnu_archive = grind (arith, distinct_by)

pub msvc_archive : IsMsvcArchive AMD64 (msvc_among foo_and_zed)
unfolding searched
msvc_archive = grind (arith, distinct_by)

archive : IsFlavorArchive AMD64 foo_and_zed
unfolding searched
archive = grind (arith, gnu_archive, msvc_archive, apart_by)

pub claims : AllByRecursion (ClaimsNone (listed_in mixed_taken ++ left_in AMD64 mixed_taken)) (choosing ∷ [])
unfolding searched
claims = (claims_none_by (listed_in mixed_taken ++ left_in AMD64 mixed_taken) choosing refl, tt)

takes : TakesIntoFor AMD64 (archive_of_both foo_and_zed) (choosing ∷ []) mixed_taken
unfolding searched
takes = into_by ((0x7F ∷ codes "zed_NULL_THUNK_DATA") ∷ codes "__NULL_IMPORT_DESCRIPTOR" ∷ codes "__IMPORT_DESCRIPTOR_zed" ∷ codes "__imp_queue" ∷ codes "foo_dll_iname" ∷ codes "_head_foo_dll" ∷ codes "baz" ∷ codes "bar" ∷ []) refl refl refl claims

names : NamesNoMembers AMD64 foo_and_zed (wanted_for AMD64 (choosing ∷ []) mixed_taken)
unfolding searched
names = record { gnu = (record { head = refl; name = refl }, tt); msvc = (record { descriptor = refl; null_descriptor = refl; null_thunk = refl }, tt) }

abbrev zed_input : FlavorInput
zed_input = record { flavor = Msvc; input = record { definition = msvc_zed.definition; members = msvc_zed.members; chosen = 0 ∷ [] } }

ended : AreEnded OfMember AMD64 (inputs_in AMD64 zed_and_foo (choosing ∷ []) mixed_taken) mixed_objects
unfolding searched
ended = record { null_from = zed_input; null_held = (0, omega arith, refl); null_flavor = refl; before = zed_members; behind = foo_linked; members = refl; tables = refl }

closed_objects : AreClosed AMD64 OfMember foo_and_zed (choosing ∷ []) mixed_taken zed_and_foo mixed_objects
unfolding searched
closed_objects = closed_by takes (record { moves = (0, 1) ∷ []; below = (omega arith, omega arith, tt); is = refl }) refl ended claims names

closed : IsClosed AMD64 OfMember foo_and_zed (choosing ∷ []) mixed_taken zed_and_foo mixed_bases mixed_objects
unfolding searched group_end sections_end
closed = packed_both AMD64 OfMember foo_and_zed own mixed_taken zed_and_foo 0x2000 mixed_objects archive closed_objects (omega arith) (below_limit (packed_end 0x2000 mixed_objects) refl)

-- the first symbol that a member is listed for
abbrev first_of : List (List ℕ) → List ℕ
first_of [] = []
first_of (name ∷ rest) = name

abbrev pub first_symbol : MemberView → List ℕ
first_symbol m = first_of m.symbols

pub new_by : (taken : List MemberView) (m : MemberView) → list_any (bytes_eq (first_symbol m)) (map first_symbol taken) ≡ false → Contains taken m → ⊥
new_by taken m new has = true≢false (sym (among_any (first_symbol m) (map first_symbol taken) (among_map first_symbol m taken (contains_among m taken has))) ∙ new)

worked_links : LinksClosed AMD64 OfMember foo_and_zed (choosing ∷ []) mixed_taken zed_and_foo mixed_bases mixed_objects
worked_links = closed_links_of_both AMD64 OfMember foo_and_zed own mixed_taken zed_and_foo mixed_bases mixed_objects archive closed

pub worked_both : WorkedBoth
unfolding searched group_end sections_end
worked_both = grind (arith, archive, takes, closed, worked_links)

given : AreGiven AMD64 foo_and_zed (choosing ∷ [])
unfolding searched
given = grind arith

pub worked_given : WorkedGiven
unfolding searched
worked_given = record { given = given; kept = refl; ends = into_ends (expanded_in AMD64) (archive_of_both foo_and_zed) own; bounded = search_bounded (expanded_in AMD64) (archive_of_both foo_and_zed) own mixed_taken takes.in_turn }
