-- What GNU ld takes, by the law, and what stays undefined, by computing.
use Rattle.std.proofs.Common.{arith, Bool, List, None, Option, Some, [], drop, false, map, refl, true, ℕ, ◌++◌, ◌∷◌, ◌≡◌}
use Rattle.std.specs.Prelude.{bytes_eq, codes, not, ◌||◌}
use Rattle.std.specs.List.{list_all, list_any}
use Rattle.implib.specs.Formats.Object.{Entry, Object}
use Rattle.implib.specs.declared.machine.MachineType.TheVariants.{AMD64}
use Rattle.implib.specs.Members.MemberSpec.{MemberView, member_of}
use Rattle.implib.specs.Members.WeakExternal.{weak_spec}
use Rattle.implib.proofs.Link.LinkedMembers.{among_contains}
use Rattle.implib_link.specs.Flavors.Expansion.{expanded_in}
use Rattle.implib_link.specs.Flavors.Program.{claimed_name}
use Rattle.implib_link.specs.Search.Search.{is_weak_entry, AreTakenIntoAs, PullsIntoAs, unresolved, first_listed, objects_as, AreOnlyWeak, without_weak}
use Rattle.implib_link.specs.Search.Libraries.{FlavorLibrary, IsFlavorArchive, archive_of_both, TakesIntoFor}
use Rattle.implib_link.proofs.Search.Lists.{any_among, contains_among, each_of}
use Rattle.implib_link.proofs.Search.Plainly.{libraries_plain}
use Rattle.implib_link_instances.specs.Worked.Plainly.{WorkedPlainly, descriptor_on, kernel, kernel_library, kernel_taken, null_on, short_on, thunk_on}
use Rattle.implib_link_instances.specs.Worked.BothFlavors.{foo_and_zed, mixed_taken, choosing}
use Rattle.implib_link_instances.specs.Worked.CommandLines.{read_or_none, wants_bytes}
use Rattle.implib_link_instances.proofs.Worked.BothFlavors.{archive_by, first_symbol, new_by, worked_both}
use Rattle.implib_link_instances.proofs.Worked.CommandLines.{ended_by}
use Rattle.implib_link_instances.proofs.Worked.Search.{searched}

-- gcc's object and the library of kernel32.dll

abbrev own : List Object
own = read_or_none wants_bytes

abbrev library : List FlavorLibrary
library = kernel_library ∷ []

kernel_archive : IsFlavorArchive AMD64 library
unfolding searched
kernel_archive = archive_by {machine = AMD64} {libraries = library} tt (record { accepted = refl; made = refl; ordinals = refl }, tt) (refl, tt) refl refl refl

-- a name pulls in a member that is not taken, by the first symbol that it is listed for
pulls : (taken : List MemberView) (name : List ℕ) (m : MemberView) → list_any (bytes_eq name) (unresolved (own ++ objects_as (expanded_in AMD64) taken)) ≡ true →
    first_listed (archive_of_both library) name ≡ Some m → list_any (bytes_eq (first_symbol m)) (map first_symbol taken) ≡ false → PullsIntoAs (expanded_in AMD64) (archive_of_both library) own taken name m
pulls taken name m left listed new = grind (arith, among_contains, any_among, new_by)

kernel_takes : TakesIntoFor AMD64 (archive_of_both library) own kernel_taken
unfolding searched AreTakenIntoAs
kernel_takes = record {
  in_turn = (
    (codes "__NULL_IMPORT_DESCRIPTOR", pulls (drop 1 kernel_taken) (codes "__NULL_IMPORT_DESCRIPTOR") (null_on AMD64 kernel) refl refl refl),
    (
      (0x7F ∷ codes "kernel32_NULL_THUNK_DATA", pulls (drop 2 kernel_taken) (0x7F ∷ codes "kernel32_NULL_THUNK_DATA") (thunk_on AMD64 kernel) refl refl refl),
      (
        (codes "__IMPORT_DESCRIPTOR_kernel32", pulls (drop 3 kernel_taken) (codes "__IMPORT_DESCRIPTOR_kernel32") (descriptor_on AMD64 kernel) refl refl refl),
        (
          (codes "ExitProcess", pulls (drop 4 kernel_taken) (codes "ExitProcess") (short_on AMD64 kernel (codes "ExitProcess")) refl refl refl),
          ((codes "quit", pulls [] (codes "quit") (member_of (weak_spec AMD64 kernel (codes "quit") (codes "ExitProcess"))) refl refl refl), tt),
        ),
      ),
    ),
  );
  ended = ended_by (expanded_in AMD64) (archive_of_both library) own kernel_taken refl;
}

-- whether what gives a name is a weak external
is_named : List ℕ → Option (List ℕ) → Bool
is_named name None = false
is_named name (Some other) = bytes_eq name other

only_weak : List ℕ → Entry → Bool
only_weak name e = not (is_named name (claimed_name e)) || is_weak_entry e

only_by : (objects : List Object) (name : List ℕ) → bytes_eq name name ≡ true → list_all (λ o. list_all (only_weak name) o.entries) objects ≡ true → AreOnlyWeak objects name
unfolding only_weak is_named
only_by objects name same all o e held among claimed = grind (arith, only_weak name, contains_among o objects held, is_named name (claimed_name e), contains_among e o.entries among, each_of)

only_quit : AreOnlyWeak (own ++ objects_as (expanded_in AMD64) kernel_taken) (codes "quit")
unfolding searched only_weak is_named
only_quit = only_by (own ++ objects_as (expanded_in AMD64) kernel_taken) (codes "quit") refl refl

pub worked_plainly : WorkedPlainly
unfolding searched without_weak
worked_plainly = record {
  amd64 = grind (arith, libraries_plain AMD64 foo_and_zed worked_both.archive (choosing ∷ []) mixed_taken (refl, tt) worked_both.takes, worked_both);
  by_gcc = record {
    none = (refl, tt);
    takes = libraries_plain AMD64 library kernel_archive own kernel_taken (refl, tt) kernel_takes;
    weak = refl;
    plain = refl;
  };
  only = only_quit;
}
