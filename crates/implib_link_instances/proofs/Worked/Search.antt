-- What the computing of searches has to open.
use Rattle.implib.specs.Formats.Layout.{encoded_size}
use Rattle.implib.specs.Formats.ShortImport.{short_import_in}
use Rattle.implib.specs.Members.GnuMembers.{alias_specs}
use Rattle.implib.specs.Members.Members.{refusal, renamed_refusal}
use Rattle.implib.specs.Members.MsvcMembers.{descriptor_spec, header_specs, null_descriptor_spec, null_thunk_spec, weak_specs}
use Rattle.implib.specs.Members.MsvcObjects.{base_name, descriptor, descriptor_symbol, null_descriptor, null_descriptor_symbol, null_thunk, null_thunk_symbol}
use Rattle.implib.specs.Members.WeakExternal.{weak_object}
use Rattle.implib_archive.specs.Archive.{entries_from, entries_of, first_linker_size, first_place, front_size, is_long, long_names, name_end, names_bytes, names_size, offset_of, places_from, second_linker_size, strings_of, with_first, with_name}
use Rattle.implib_archive.specs.Refusal.{has_short_places, has_too_many, member_refusal, members_refusal, name_refusal, places_refusal, refusal_of, symbol_refusal, symbols_refusal}
use Rattle.implib_link.specs.Flavors.Expansion.{descriptor_symbol_by_name, expanded_in, import_object, with_section_symbols}
use Rattle.implib_link.specs.Flavors.Program.{has_tables, ClaimsNone}
use Rattle.implib_link.specs.Search.Search.{archive_of, is_weak, symbols_of_library, claims_of, references_of, claimed_as, left_as, undefined_in, first_listed, AreTakenIntoAs, unresolved, listed_in, TakesIntoAs, SweepsTake, sweeps, swept}
use Rattle.implib_link.specs.Search.Libraries.{is_weak_in, symbols_of_shorts}
use Rattle.implib_link_instances.proofs.Worked.Programs.{opened, distinct_by, opened as opened_of_programs}
use Rattle.std.proofs.Common.{rules, Bool, List, Option, Some, [], arith, codes, false, inl, inr, map, refl, subst, sym, true, ℕ, ◌++◌, ◌<◌, ◌^◌, ◌∙◌, ◌∷◌, ◌≡◌}
use Rattle.std.specs.Prelude.{bytes_eq, is_none, nat_lt, not, ◌&&◌, ◌||◌}
use Rattle.std.specs.List.{IsDistinct, list_all, list_any, AllByRecursion}
use Rattle.std.proofs.lemmas.Bool.{and_parts, ltb-true, not-true, true≢false}
use Rattle.implib.specs.declared.machine.MachineType.TheVariants.{AMD64}
use Rattle.implib.specs.Members.MemberSpec.{MemberView}
use Rattle.implib.specs.Formats.Object.{Object}
use Rattle.implib.proofs.Link.LinkedMembers.{among_contains, among_map}
use Rattle.implib.proofs.Link.Ranges.{Among, among_back}
use Rattle.implib_link_instances.specs.Worked.Search.{WorkedFound, WorkedNamedApart, WorkedSweeps, first_x, given_f, reads_by_hand, second_x, two_libraries, wants_x}
use Rattle.implib_link.proofs.Search.Lists.{among_any, any_among, contains_among}
use Rattle.implib_link.proofs.Search.Sweeps.{sweeps_take}
use Rattle.implib_link.specs.Search.NamedApart.{AreNamedApart}
use Rattle.implib_link.proofs.Search.FlavorGroups.{named_apart}
use Rattle.implib_link.proofs.Search.Closing.{AreTakenInTurnAs, PullsInAs, TakesAs, claims_apart, takes_into}

-- what the computing has to open
unfoldable pub searched : Unit {0}
unfolding opened refusal renamed_refusal alias_specs encoded_size weak_object expanded_in short_import_in import_object descriptor_symbol_by_name with_section_symbols descriptor null_descriptor null_thunk descriptor_symbol null_descriptor_symbol null_thunk_symbol base_name descriptor_spec null_descriptor_spec null_thunk_spec header_specs weak_specs has_tables archive_of is_weak is_weak_in left_as claimed_as undefined_in references_of claims_of symbols_of_library symbols_of_shorts
searched = tt

-- what is opened of an archive that is not refused
unfoldable pub archived : Unit {0}
unfolding entries_from entries_of first_linker_size first_place front_size is_long long_names name_end names_bytes names_size offset_of places_from second_linker_size strings_of with_first with_name has_short_places has_too_many member_refusal members_refusal name_refusal places_refusal refusal_of symbol_refusal symbols_refusal
archived = tt

-- The search that was done by hand, by computing.

-- whether a name pulls in no member any more
abbrev is_settled : (List ℕ → Option Object) → List MemberView → List MemberView → List ℕ → Bool
is_settled reads archive taken name = list_any (bytes_eq name) (claimed_as reads taken) || is_none (first_listed archive name)

all_settled : (P : List ℕ → Bool) (names : List (List ℕ)) (name : List ℕ) → list_all P names ≡ true → Among name names → P name ≡ true
unfolding Among
all_settled P [] name all held = absurd held
all_settled P (n ∷ names) name all (inl e) = subst (λ t. P t ≡ true) (sym e) (and_parts (P n) (list_all P names) all).0
all_settled P (n ∷ names) name all (inr held) = all_settled P names name (and_parts (P n) (list_all P names) all).1 held

-- a search is at its end where each name is settled
pub settled_ends : (reads : List ℕ → Option Object) (archive : List MemberView) (names : List (List ℕ)) (taken : List MemberView) → list_all (is_settled reads archive taken) (names ++ left_as reads taken) ≡ true →
    (name : List ℕ) (m : MemberView) → PullsInAs reads archive names taken name m → ⊥
settled_ends reads archive names taken all name m pulls = grind (arith, contains_among name (names ++ left_as reads taken) pulls.named, all_settled)

-- the first symbol that a member is listed for
abbrev first_of : List (List ℕ) → List ℕ
first_of [] = []
first_of (name ∷ names) = name

abbrev first_symbol : MemberView → List ℕ
first_symbol m = first_of m.symbols

-- a name pulls in a member by what is computed
pub pulls_in_now : (reads : List ℕ → Option Object) (archive : List MemberView) (names : List (List ℕ)) (taken : List MemberView) (name : List ℕ) (m : MemberView) →
    list_any (bytes_eq name) (names ++ left_as reads taken) ≡ true → list_any (bytes_eq name) (claimed_as reads taken) ≡ false → first_listed archive name ≡ Some m →
    list_any (bytes_eq (first_symbol m)) (map first_symbol taken) ≡ false → PullsInAs reads archive names taken name m
pulls_in_now reads archive names taken name m named undefined listed new = record {
  named = among_contains name (names ++ left_as reads taken) (any_among name (names ++ left_as reads taken) named);
  undefined = undefined;
  listed = listed;
  new = λ has. true≢false (sym (among_any (first_symbol m) (map first_symbol taken) (among_map first_symbol m taken (contains_among m taken has))) ∙ new);
}

-- whether members are taken in turn, each for its name: the name is left after those before it, and they do not have the member
abbrev are_in_turn : (List ℕ → Option Object) → List (List ℕ) → List (List ℕ) → List MemberView → Bool
are_in_turn reads wanted names [] = true
are_in_turn reads wanted [] (m ∷ earlier) = false
are_in_turn reads wanted (name ∷ names) (m ∷ earlier) =
    (list_any (bytes_eq name) (wanted ++ left_as reads earlier)
    && (not (list_any (bytes_eq name) (claimed_as reads earlier)) && not (list_any (bytes_eq (first_symbol m)) (map first_symbol earlier))))
    && are_in_turn reads wanted names earlier

turns_by : (reads : List ℕ → Option Object) (archive : List MemberView) (wanted names : List (List ℕ)) (taken : List MemberView) → map (first_listed archive) names ≡ map Some taken → are_in_turn reads wanted names taken ≡ true →
    AreTakenInTurnAs reads archive wanted taken
unfolding AreTakenInTurnAs
turns_by reads archive wanted names [] listed all = tt
turns_by reads archive wanted [] (m ∷ earlier) listed all = absurd (true≢false (sym all))
turns_by reads archive wanted (name ∷ names) (m ∷ earlier) listed all = grind (arith, turns_by reads archive wanted names earlier, and_parts, pulls_in_now, not-true)

-- What a linker takes, each member for a name, by computing.
pub takes_by : {reads : List ℕ → Option Object} {archive : List MemberView} {wanted : List (List ℕ)} {taken : List MemberView} (names : List (List ℕ)) → map (first_listed archive) names ≡ map Some taken →
    are_in_turn reads wanted names taken ≡ true → list_all (is_settled reads archive taken) (wanted ++ left_as reads taken) ≡ true → TakesAs reads archive wanted taken
takes_by {reads} {archive} {wanted} {taken} names listed turns settled = record { in_turn = turns_by reads archive wanted names taken listed turns; ended = settled_ends reads archive wanted taken settled }

-- What a linker takes for given objects that claim nothing of it, by computing.
pub into_by : {reads : List ℕ → Option Object} {archive : List MemberView} {own : List Object} {taken : List MemberView} (names : List (List ℕ)) → map (first_listed archive) names ≡ map Some taken →
    are_in_turn reads (unresolved own) names taken ≡ true → list_all (is_settled reads archive taken) (unresolved own ++ left_as reads taken) ≡ true → AllByRecursion (ClaimsNone (listed_in taken ++ left_as reads taken)) own →
    TakesIntoAs reads archive own taken
unfolding left_as
into_by {reads} {archive} {own} {taken} names listed turns settled claims =
    takes_into reads archive own taken (λ name left. claims_apart (listed_in taken ++ left_as reads taken) own claims name (among_back name (listed_in taken) (left_as reads taken) left)) (takes_by names listed turns settled)

-- a number below 2^31, by computing
pub below_limit : (n : ℕ) → nat_lt n (2 ^ 31) ≡ true → n < 2 ^ 31
below_limit n is = ltb-true n (2 ^ 31) is

twice : SweepsTake reads_by_hand (first_x ∷ wants_x ∷ []) given_f 2 (0 ∷ 1 ∷ [])
unfolding swept sweeps references_of claims_of undefined_in
twice = record { taken = refl; ended = refl }

once : SweepsTake reads_by_hand (wants_x ∷ second_x ∷ []) given_f 1 (1 ∷ 0 ∷ [])
unfolding swept sweeps references_of claims_of undefined_in
once = record { taken = refl; ended = refl }

pub worked_sweeps : WorkedSweeps
unfolding IsDistinct AreTakenIntoAs
worked_sweeps = record {
  distinct = distinct_by (codes "x" ∷ codes "f" ∷ []) refl;
  twice = twice;
  once = once;
  just = sweeps_take reads_by_hand (first_x ∷ wants_x ∷ []) given_f (distinct_by (codes "x" ∷ codes "f" ∷ []) refl) 2 (0 ∷ 1 ∷ []) twice;
}

pub worked_found : WorkedFound
unfolding base_name descriptor_symbol descriptor_symbol_by_name
worked_found = grind arith

apart : AreNamedApart AMD64 two_libraries
unfolding opened_of_programs
apart = grind (arith, distinct_by)

pub worked_named_apart : WorkedNamedApart
unfolding opened_of_programs refusal renamed_refusal alias_specs encoded_size weak_object
worked_named_apart = search (rules, apart, named_apart)
