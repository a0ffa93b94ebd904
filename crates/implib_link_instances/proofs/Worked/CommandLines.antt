-- The command lines, by computing and by the laws.
use Rattle.std.proofs.Common.{arith, ◌≡◌, ℕ, zero, suc, true, false, List, [], ◌∷◌, ◌++◌, map, Option, None, Some, refl, sym, ◌∙◌, subst, inl, inr, codes}
use Rattle.std.specs.Prelude.{bytes_eq, if◌then◌else◌, is_none}
use Rattle.std.specs.List.{AllByRecursion, Contains, IsDistinct, filter, list_all, list_any}
use Rattle.std.proofs.lemmas.Bool.{true≢false}
use Rattle.implib.specs.declared.machine.MachineType.{MachineType}
use Rattle.implib.specs.Machine.{is_32bit}
use Rattle.implib.specs.declared.machine.MachineType.TheVariants.{AMD64, ARM64, ARMNT, I386}
use Rattle.implib.specs.Formats.Layout.{encoded_size}
use Rattle.implib.specs.Formats.Object.{Object}
use Rattle.implib.specs.Members.GnuMembers.{alias_specs}
use Rattle.implib.specs.Members.MemberSpec.{MemberView}
use Rattle.implib.specs.Members.Members.{refusal, renamed_refusal}
use Rattle.implib.proofs.Link.LinkedMembers.{among_contains, among_map}
use Rattle.implib.proofs.Link.Ranges.{Among}
use Rattle.implib_link.specs.Flavors.Program.{HaveSame}
use Rattle.implib_link.specs.Flavors.Expansion.{expanded_in}
use Rattle.implib_link.specs.Search.Search.{archive_of, has_weak, is_weak, symbols_of_library, PullsIntoAs, claims_of, listed_in, references_of, unresolved, claimed_as, first_listed, objects_as, undefined_in, members_at, sweeps, swept}
use Rattle.implib_link.specs.Search.CommandLines.{AreListedWhole, AreRounds, AreSwept, AreUnclaimedBehind, IsOrdered, SearchesCommandLine, SearchesFrom, names_left}
use Rattle.implib_link.proofs.Search.CommandLines.{are_first_of_distinct, first_of_distinct, gnu_searches, taken_are, takes_alike}
use Rattle.implib_link.proofs.Search.Lists.{among_any, any_among, contains_among}
use Rattle.implib_link_instances.specs.Worked.CommandLines.{WorkedCommandLine, WorkedCommandLines, all_taken, amd64_members, i386_members, i386_wants_bytes, in_group, library_last, of_quit, read_or_none, wants_bytes}
use Rattle.implib_link_instances.specs.Worked.Programs.{code_object}
use Rattle.implib_link_instances.proofs.Worked.Programs.{distinct_by, opened}
use Rattle.implib_link_instances.proofs.Worked.Search.{archived, searched}
use Rattle.implib_link_instances.proofs.Worked.Lemmas.{IsX86}

-- members that claim what they are listed for
whole_at : (reads : List ℕ → Option Object) (m : MemberView) → claimed_as reads (m ∷ []) ≡ m.symbols → HaveSame (claimed_as reads (m ∷ [])) m.symbols
whole_at reads m is x = (λ held. subst (λ names. Contains names x) is held, λ held. subst (λ names. Contains names x) (sym is) held)

pub whole_by : (reads : List ℕ → Option Object) (members : List MemberView) → AllByRecursion (λ m. claimed_as reads (m ∷ []) ≡ m.symbols) members → AreListedWhole reads members
whole_by reads [] are = tt
whole_by reads (m ∷ members) are = (whole_at reads m are.0, whole_by reads members are.1)

abbrev pub member_or_none : Option MemberView → MemberView
member_or_none None = record { name = []; bytes = []; symbols = [] }
member_or_none (Some m) = m

abbrev pub object_at : List Object → ℕ → Object
object_at [] n = code_object []
object_at (o ∷ objects) zero = o
object_at (o ∷ objects) (suc n) = object_at objects n

-- Searches of members that are read as objects, by computing.

ended_here : (archive : List MemberView) (names : List (List ℕ)) (name : List ℕ) (m : MemberView) → list_all (λ n. is_none (first_listed archive n)) names ≡ true → Among name names → first_listed archive name ≡ Some m → ⊥
unfolding Among
ended_here archive [] name m all held listed = held
ended_here archive (n ∷ names) name m all (inl is) listed = grind arith
ended_here archive (n ∷ names) name m all (inr held) listed = grind (arith, ended_here archive names name m)

pub ended_by : (reads : List ℕ → Option Object) (archive : List MemberView) (own : List Object) (taken : List MemberView) → list_all (λ n. is_none (first_listed archive n)) (unresolved (own ++ objects_as reads taken)) ≡ true →
    (name : List ℕ) (m : MemberView) → PullsIntoAs reads archive own taken name m → ⊥
ended_by reads archive own taken all name m pulls = grind (arith, ended_here, contains_among)

pub pulls_by : (reads : List ℕ → Option Object) (archive : List MemberView) (own : List Object) (taken : List MemberView) (name : List ℕ) (m : MemberView) → list_any (bytes_eq name) (unresolved (own ++ objects_as reads taken)) ≡ true →
    first_listed archive name ≡ Some m → list_any (bytes_eq m.name) (map (λ (x : MemberView). x.name) taken) ≡ false → PullsIntoAs reads archive own taken name m
pulls_by reads archive own taken name m left listed new = record {
  named = among_contains name (unresolved (own ++ objects_as reads taken)) (any_among name (unresolved (own ++ objects_as reads taken)) left);
  listed = listed;
  new = λ has. true≢false (sym (among_any m.name (map (λ (x : MemberView). x.name) taken) (among_map (λ (x : MemberView). x.name) m taken (contains_among m taken has))) ∙ new);
}

-- the two machines

abbrev pub own : MachineType → List Object
own machine = read_or_none (if is_32bit machine then i386_wants_bytes else wants_bytes)

abbrev pub exit : MachineType → List ℕ
exit machine = if is_32bit machine then codes "_ExitProcess@4" else codes "ExitProcess"

abbrev members : MachineType → List MemberView
members machine = if is_32bit machine then i386_members else amd64_members

worked : (machine : MachineType) → IsX86 machine → WorkedCommandLine machine (members machine) (own machine)
unfolding opened alias_specs encoded_size claimed_as swept sweeps references_of claims_of undefined_in AreSwept AreRounds SearchesFrom IsOrdered AreUnclaimedBehind searched archived refusal renamed_refusal is_weak symbols_of_library archive_of
worked ARMNT none = absurd none
worked ARM64 none = absurd none
worked machine _ = record {
  distinct = distinct;
  whole = whole;
  first = searched_last;
  ordered = ordered;
  takes = gnu_searches (expanded_in machine) (members machine) (library_last (own machine)) all_taken (first_of_distinct (members machine) (names_left (expanded_in machine) (own machine) (members_at (members machine) all_taken)) all_taken distinct) unclaimed ordered searched_last;
  group = searched_group;
  alike = λ other lld. takes_alike (expanded_in machine) (members machine) (in_group (own machine)) all_taken other (first_of_distinct (members machine) (names_left (expanded_in machine) (own machine) (members_at (members machine) all_taken)) all_taken distinct) (are_first_of_distinct (members machine) (names_left (expanded_in machine) (own machine) other) other distinct (taken_are (expanded_in machine) (members machine) (own machine) whole other lld.in_turn)) whole group_unclaimed group_ordered searched_group lld;
}
  where
    distinct : IsDistinct bytes_eq (listed_in (members machine))
    distinct = distinct_by (listed_in (members machine)) refl

    whole : AreListedWhole (expanded_in machine) (members machine)
    whole = whole_by (expanded_in machine) (members machine) (refl, (refl, (refl, (refl, tt))))

    once : IsDistinct bytes_eq (map (λ m. m.bytes) (filter (λ m. has_weak (expanded_in machine m.bytes)) (members machine)))
    once = distinct_by (map (λ m. m.bytes) (filter (λ m. has_weak (expanded_in machine m.bytes)) (members machine))) refl

    searched_last : SearchesCommandLine (expanded_in machine) (members machine) (library_last (own machine)) all_taken
    searched_last = record { once = once; searched = (of_quit, record { rounds = 1; taken = (of_quit, (of_quit, record { count = 1; taken = refl; ended = refl }, refl), refl); ended = (refl, tt) }, (all_taken, record { rounds = 1; taken = (all_taken, (all_taken, record { count = 3; taken = refl; ended = refl }, refl), refl); ended = (refl, tt) }, refl)) }

    searched_group : SearchesCommandLine (expanded_in machine) (members machine) (in_group (own machine)) all_taken
    searched_group = record { once = once; searched = (all_taken, record { rounds = 2; taken = (of_quit, ([], record { count = 0; taken = refl; ended = refl }, (of_quit, record { count = 1; taken = refl; ended = refl }, refl)), (all_taken, (all_taken, record { count = 3; taken = refl; ended = refl }, (all_taken, record { count = 0; taken = refl; ended = refl }, refl)), refl)); ended = (refl, (refl, tt)) }, refl) }

    ordered : IsOrdered (expanded_in machine) (members machine) (library_last (own machine))
    ordered = ((tt, tt), ((tt, tt), (((refl, tt), ((refl, tt), ((refl, tt), tt))), tt)))

    group_ordered : IsOrdered (expanded_in machine) (members machine) (in_group (own machine))
    group_ordered = ((tt, tt), ((tt, (tt, (tt, (tt, tt)))), tt))

    unclaimed : AreUnclaimedBehind (members machine) [] (library_last (own machine))
    unclaimed = ((tt, tt), (tt, (tt, tt)))

    group_unclaimed : AreUnclaimedBehind (members machine) [] (in_group (own machine))
    group_unclaimed = ((tt, tt), (tt, tt))

pub worked_command_lines : WorkedCommandLines
worked_command_lines = record { amd64 = worked AMD64 tt; i386 = worked I386 tt }
