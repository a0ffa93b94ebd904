-- The command lines with a library for Microsoft's linker, by computing and by the laws.
use Rattle.std.proofs.Common.{List, [], ◌∷◌, ◌⊎◌, map, refl, inl, inr, arith}
use Rattle.std.specs.Prelude.{bytes_eq, if◌then◌else◌}
use Rattle.std.specs.List.{IsDistinct, filter}
use Rattle.implib.specs.declared.machine.MachineType.{MachineType}
use Rattle.implib.specs.declared.machine.MachineType.TheVariants.{AMD64, ARM64, ARMNT, I386}
use Rattle.implib.specs.Machine.{is_32bit}
use Rattle.implib.specs.Members.MemberSpec.{MemberView}
use Rattle.implib_link.specs.Flavors.Expansion.{expanded_in}
use Rattle.implib_link.specs.Search.Libraries.{AreGiven, FlavorLibrary, archive_of_both}
use Rattle.implib_link.specs.Search.Search.{has_weak, listed_in, members_at, sweeps, swept}
use Rattle.implib_link.specs.Search.CommandLines.{AreListedWhole, AreRounds, AreSwept, AreUnclaimedBehind, Input, IsOrdered, NoneIsLost, SearchesCommandLine, SearchesFor, SearchesFrom, names_left}
use Rattle.implib_link.proofs.Search.CommandLines.{first_of_distinct, takes_of_libraries}
use Rattle.implib_link_instances.specs.Worked.CommandLines.{is_quit, WorkedFlavorLine, WorkedFlavorLines, amd64_kernels, amd64_shorts, i386_kernels, i386_shorts, shorts_grouped, shorts_last, shorts_taken, with_quit}
use Rattle.implib_link_instances.proofs.Worked.BothFlavors.{archive_by}
use Rattle.implib_link_instances.proofs.Worked.CommandLines.{object_at, own, whole_by}
use Rattle.implib_link_instances.proofs.Worked.Search.{searched, archived}
use Rattle.implib_link_instances.proofs.Worked.Lemmas.{IsX86}
use Rattle.implib_link_instances.proofs.Worked.Programs.{claims_none_by, distinct_by}

-- the two machines

abbrev pub kernels : MachineType → List FlavorLibrary
kernels machine = if is_32bit machine then i386_kernels else amd64_kernels

abbrev pub shorts : MachineType → List MemberView
shorts machine = if is_32bit machine then i386_shorts else amd64_shorts

abbrev pub line : MachineType → List Input
line machine = if is_32bit machine then shorts_grouped (own machine) else shorts_last (own machine)

-- what GNU ld takes of each, and what its search needs

searched_line : (machine : MachineType) → IsX86 machine → SearchesCommandLine (expanded_in machine) (shorts machine) (line machine) shorts_taken
unfolding searched swept sweeps AreSwept AreRounds SearchesFrom
searched_line I386 _ = record {
  once = distinct_by (map (λ m. m.bytes) (filter (λ m. has_weak (expanded_in I386 m.bytes)) (shorts I386))) refl;
  searched = (
    shorts_taken,
    record {
      rounds = 2;
      taken = (
        4 ∷ [],
        ([], record { count = 0; taken = refl; ended = refl }, (4 ∷ [], record { count = 1; taken = refl; ended = refl }, refl)),
        (shorts_taken, (shorts_taken, record { count = 2; taken = refl; ended = refl }, (shorts_taken, record { count = 0; taken = refl; ended = refl }, refl)), refl),
      );
      ended = (refl, (refl, tt));
    },
    refl,
  );
}
searched_line AMD64 _ = record {
  once = distinct_by (map (λ m. m.bytes) (filter (λ m. has_weak (expanded_in AMD64 m.bytes)) (shorts AMD64))) refl;
  searched = (
    4 ∷ [],
    record { rounds = 1; taken = (4 ∷ [], (4 ∷ [], record { count = 1; taken = refl; ended = refl }, refl), refl); ended = (refl, tt) },
    (shorts_taken, record { rounds = 1; taken = (shorts_taken, (shorts_taken, record { count = 2; taken = refl; ended = refl }, refl), refl); ended = (refl, tt) }, refl),
  );
}
searched_line _ none = absurd none

in_order : (machine : MachineType) → IsX86 machine → AreUnclaimedBehind (shorts machine) [] (line machine) × (IsOrdered (expanded_in machine) (shorts machine) (line machine) ⊎ NoneIsLost (expanded_in machine) (shorts machine) (own machine) (members_at (shorts machine) shorts_taken))
unfolding searched AreUnclaimedBehind IsOrdered
in_order I386 _ = (((tt, tt), (tt, tt)), inl ((tt, tt), ((tt, (tt, (tt, (tt, (tt, tt))))), tt)))
in_order AMD64 _ = (((tt, tt), (tt, (tt, tt))), inr tt)
in_order _ none = absurd none

pub worked : (machine : MachineType) → IsX86 machine → WorkedFlavorLine machine (kernels machine) (shorts machine) (own machine) (line machine)
unfolding searched archived
worked ARMNT none = absurd none
worked ARM64 none = absurd none
worked machine is = record {
  archive = archive_by tt (record { accepted = refl; made = refl; ordinals = refl }, tt) (refl, tt) refl refl refl;
  ready = record { accepted = refl; has = tt };
  searches = record { read = (tt, (tt, (tt, ((refl, refl), (tt, tt))))); takes = searches };
  given = given;
  some = omega arith;
  takes = takes_of_libraries (expanded_in machine) (archive_of_both (kernels machine)) (shorts machine) (line machine) is_quit shorts_taken searches;
}
  where
    distinct : IsDistinct bytes_eq (listed_in (shorts machine))
    distinct = distinct_by (listed_in (shorts machine)) refl

    whole : AreListedWhole (expanded_in machine) (shorts machine)
    whole = whole_by (expanded_in machine) (shorts machine) (refl, (refl, (refl, (refl, (refl, tt)))))

    searches : SearchesFor (expanded_in machine) (archive_of_both (kernels machine)) (shorts machine) (line machine) is_quit shorts_taken
    searches = record {
      libraries_are = refl;
      first = first_of_distinct (shorts machine) (names_left (expanded_in machine) (own machine) (members_at (shorts machine) shorts_taken)) shorts_taken distinct;
      by_name = record { left = refl; claimed = refl };
      unclaimed = (in_order machine is).0;
      ordered = (in_order machine is).1;
      whole = whole;
      searches = searched_line machine is;
    }

    given : AreGiven machine (kernels machine) (with_quit machine (shorts machine) (own machine))
    given = record {
      claims = grind (arith, claims_none_by, own, object_at);
      names = record { gnu = tt; msvc = (record { descriptor = refl; null_descriptor = refl; null_thunk = refl }, tt) };
    }

pub worked_flavor_lines : WorkedFlavorLines
worked_flavor_lines = record { amd64 = worked AMD64 tt; i386 = worked I386 tt }
