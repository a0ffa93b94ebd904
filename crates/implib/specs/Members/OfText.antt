-- The members of a text: what `ImportLibrary::new` and then `members` promise together.
use Rattle.std.specs.Prelude.{◌≡◌, ℕ, List, Some}
use Rattle.implib.specs.declared.flavor.Flavor.{Flavor}
use Rattle.implib.specs.declared.machine.MachineType.{MachineType}
use Rattle.implib.specs.Fault.{Cause}
use Rattle.implib.specs.Library.{LibraryOf, LibraryView}
use Rattle.implib.specs.Members.Members.{AreMembersOf, refusal}
use Rattle.implib.specs.Members.MemberSpec.{MemberView}
use Rattle.implib.specs.Members.ReadBack.{ReadBack}

-- the members are those of the library that the text means, and are read back as its definition
-- says
pub record MembersOf (text : List ℕ) (machine : MachineType) (flavor : Flavor)
    (members : List MemberView) : Type 0 where
  pub library : LibraryView
  pub of_text : LibraryOf text machine flavor library
  pub made : AreMembersOf library.definition machine flavor members
  pub reads : ReadBack library.definition machine flavor members

-- the text means a library whose definition has no members, for this cause
pub record HasNoMembers (text : List ℕ) (machine : MachineType) (flavor : Flavor) (cause : Cause)
    : Type 0 where
  pub library : LibraryView
  pub of_text : LibraryOf text machine flavor library
  pub refused : refusal library.definition machine flavor ≡ Some cause
