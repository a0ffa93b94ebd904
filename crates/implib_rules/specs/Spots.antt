-- Views of where the members of a library are.
use Rattle.std.specs.Prelude.{◌≡◌, ℕ, List, [], None, Some}
use Rattle.std.specs.List.{slice_get}
use Rattle.implib.specs.Library.{member_view}
use Rattle.implib.specs.Members.MemberSpec.{MemberView}
use Rattle.implib_rules.specs.declared.members.MadeLater.{MadeLater}
use Rattle.implib_rules.specs.declared.members.MadeLater.TheVariants.{Nothing, Imports, Objects}
use Rattle.implib_rules.specs.declared.members.Spot.{Spot}
use Rattle.implib_rules.specs.declared.members.Spot.TheVariants.{Held, Import, Object, Nowhere}

-- the members that are made when they are wanted
abbrev pub later_in : MadeLater → List MemberView
later_in Nothing = []
later_in (Imports imports) = imports.members
later_in (Objects objects) = objects.members

-- the member at an index is there
abbrev pub IsAt : List MemberView → ℕ → Spot → Type 0
IsAt members index (Held member) = slice_get members index ≡ Some (member_view member.now)
IsAt members index (Import imports place) =
    slice_get members index ≡ slice_get imports.now.members place
IsAt members index (Object objects place) =
    slice_get members index ≡ slice_get objects.now.members place
IsAt members index Nowhere = slice_get members index ≡ None
