-- Views of what makes the members for GNU's linker and keeps the objects of the exports. No promise
-- cites them.
use Rattle.std.specs.Prelude.{◌≡◌, ◌&&◌, ℕ, Bool, not, true, false, List, map, reverse, Result}
use Rattle.std.specs.Prelude.{IfOk, OnOk}
use Rattle.std.specs.List.{filter, list_any}
use Rattle.implib.specs.declared.error.Error.{Error}
use Rattle.implib.specs.declared.gnu.members.GnuMembers.{GnuMembers}
use Rattle.implib.specs.declared.machine.MachineType.{MachineType}
use Rattle.implib.specs.Definition.{ExportView}
use Rattle.implib.specs.Fault.{IfInvalid, MemberTooLong}
use Rattle.implib.specs.Import.{is_alias}
use Rattle.implib.specs.Members.GnuMembers.{numbered_specs}
use Rattle.implib.specs.Members.KeptMembers.{kept_members}
use Rattle.implib.specs.Members.MemberSpec.{MemberSpec, member_of}
use Rattle.implib.specs.Members.Members.{is_too_long}

-- the exports that are not private
abbrev pub public_among : List ExportView → List ExportView
public_among exports = filter (λ e. not e.private) exports

-- whether an export is public, and its name weak for another
abbrev pub is_public_alias : ExportView → Bool
is_public_alias e = not e.private && is_alias e.alias_target e.name

-- the specifications of what is kept of exports, from the last to the first
abbrev pub kept_specs : MachineType → List ℕ → List ExportView → List MemberSpec
kept_specs machine linked exports = reverse (numbered_specs machine linked 0 (public_among exports))

-- the specified members, in order; they are refused only where one is too long
pub record MakesKept (specs : List MemberSpec) (result : Result GnuMembers Error) : Type 0 where
  pub ok : IfOk result (λ members. kept_members members ≡ map member_of specs)
  pub fit : OnOk result (list_any is_too_long specs ≡ false)
  pub too_long : IfInvalid result
      (λ cause. (cause ≡ MemberTooLong) × (list_any is_too_long specs ≡ true))
