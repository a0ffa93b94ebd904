use Rattle.implib.proofs.Worked.MemberSpecs.{worked_member_specs}
use Rattle.implib.proofs.laws.members.worked_member_specs.Goals as goal

pub returns : goal.returns
returns c = worked_member_specs
