-- Lemmas on what is done with the bytes of a definition: how many members the warnings are of, and why there is no library.
use Rattle.std.proofs.Common.{◌≡◌, ℕ, ◌&&◌, Bool, true, false, List, ap, inl, inr, length, refl, subst}
use Rattle.implib.specs.declared.flavor.Flavor.{Flavor}
use Rattle.implib.specs.declared.flavor.Flavor.TheVariants.{Gnu, Msvc}
use Rattle.implib.specs.Members.MemberSpec.{MemberView}
use Rattle.implib.specs.declared.machine.MachineType.{MachineType}
use Rattle.std.specs.List.{list_any}
use Rattle.implib_driver.specs.Program.{members_counted}
use Rattle.implib_driver.specs.Stubs.{has_stub, stubs_fail}
use Rattle.implib_rules.specs.declared.library.Refusal.{Refusal}
use Rattle.implib_rules.specs.declared.library.Refusal.TheVariants.{Archive, Members, NoName, NotUtf8, OutOfMemory, Syntax}
use Rattle.implib_rules.specs.Library.{CountsMembers, IsRefusalOfMembers, is_out_of_memory}
use Rattle.implib_rules.specs.Older.{IsRefusalOfAsked, IsRefusalOfBytesAsked, IsRefusalWith, MembersAsked, MembersWith, has_older, may_have_older}
use Rattle.implib_rules.specs.Options.{LibraryOptionsView}

-- for Microsoft's linker there are no older symbols
none_older : (asked : Bool) (flavor : Flavor) → flavor ≡ Msvc → has_older asked flavor ≡ false
none_older true flavor is = ap may_have_older is
none_older false flavor is = refl

-- of members, the warnings count all, and for GNU's linker none
pub counts_with : (asked : Bool) (bytes : List ℕ) (options : LibraryOptionsView) (flavor : Flavor) (members : List MemberView) → options.flavor ≡ flavor
    → MembersAsked asked bytes options members → CountsMembers bytes options flavor (members_counted flavor (length members))
counts_with asked bytes options Gnu members is made = refl
counts_with asked bytes options Msvc members is made = inl (record {
  members = members;
  members_for = subst (λ older. MembersWith older bytes options members) (none_older asked options.flavor is) made;
  are = refl;
})

-- what is refused without older symbols
refused_without : (bytes : List ℕ) (options : LibraryOptionsView) (why : Refusal) → IsRefusalWith false bytes options why
    → IsRefusalOfMembers bytes options why
refused_without bytes options (NotUtf8 position) refused = refused
refused_without bytes options (Syntax fault position) refused = refused
refused_without bytes options NoName refused = refused
refused_without bytes options (Members fault position) refused = refused
refused_without bytes options (Archive fault) refused = refused
refused_without bytes options OutOfMemory refused = refused

-- without members they count none
pub counts_without : (asked : Bool) (bytes : List ℕ) (options : LibraryOptionsView) (flavor : Flavor) (why : Refusal) → options.flavor ≡ flavor
    → IsRefusalOfAsked asked bytes options why → is_out_of_memory why ≡ false → CountsMembers bytes options flavor 0
counts_without asked bytes options Gnu why is refused memory = refl
counts_without asked bytes options Msvc why is refused memory = inr (record {
  why = why;
  is_refused = refused_without bytes options why (subst (λ older. IsRefusalWith older bytes options why) (none_older asked options.flavor is) refused);
  has_memory = memory;
  none = refl;
})

-- what has no members for this has no library for this
pub without_members : (asked : Bool) (bytes : List ℕ) (options : LibraryOptionsView) (why : Refusal) → IsRefusalOfAsked asked bytes options why
    → IsRefusalOfBytesAsked asked bytes options why
without_members asked bytes options (NotUtf8 position) refused = refused
without_members asked bytes options (Syntax fault position) refused = refused
without_members asked bytes options NoName refused = refused
without_members asked bytes options (Members fault position) refused = refused
without_members asked bytes options (Archive fault) refused = absurd refused
without_members asked bytes options OutOfMemory refused = tt

-- what is not for want of memory
pub has_memory : (why : Refusal) → ¬ (why ≡ OutOfMemory) → is_out_of_memory why ≡ false
has_memory (NotUtf8 position) other = refl
has_memory (Syntax fault position) other = refl
has_memory NoName other = refl
has_memory (Members fault position) other = refl
has_memory (Archive fault) other = refl
has_memory OutOfMemory other = absurd (other refl)

-- where stubs cannot run the flavour is GNU's, of which no warning counts members
pub counts_failing : (bytes : List ℕ) (options : LibraryOptionsView) (flavor : Flavor) (machine : MachineType) (members : List MemberView)
    → (stubs_fail flavor machine && list_any has_stub members) ≡ true → CountsMembers bytes options flavor 0
counts_failing bytes options Gnu machine members fails = refl
counts_failing bytes options Msvc machine members fails = cc
