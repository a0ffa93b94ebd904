use Rattle.std.proofs.Common.{ℕ, List, map}
use Rattle.std.specs.Prelude.{IfOk, Result, Ok, Err}
use Rattle.std.specs.declared.vec.Vec.{Vec}
use Rattle.implib.specs.declared.error.Error.{Error}
use Rattle.implib.specs.declared.machine.MachineType.{MachineType}
use Rattle.implib.specs.declared.member.Member.{Member}
use Rattle.implib.specs.Library.{member_view}
use Rattle.implib_link.specs.Flavors.Texts.{LinkInFlavor}
use Rattle.implib.specs.declared.flavor.Flavor.TheVariants.{Gnu}
use Rattle.implib_tests.specs.Using.Callers.{ImportsJustThese}
use Rattle.implib_tests.proofs.Using.Links.{imports_just_these}
use Rattle.implib_tests.proofs.uses.link.members_to_link.Goals as goal

if_made : {A : Type 0} (text : List ℕ) (machine : MachineType) (result : Result (Vec Member A) Error) →
    IfOk result (λ members. LinkInFlavor text machine Gnu (map member_view members.items)) →
    IfOk result (λ members. ImportsJustThese text machine (map member_view members.items))
if_made text machine (Ok members) given = imports_just_these text machine (map member_view members.items) given
if_made text machine (Err error) given = tt

pub returns : goal.returns
returns c = if_made c.args.text.now c.args.machine c.gnu_members_of_text.result c.gnu_members_of_text.ensures.links
