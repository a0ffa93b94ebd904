use Rattle.implib.proofs.Worked.MemberSpecs.{worked_lists}
use Rattle.implib.proofs.laws.members.worked_lists.Goals as goal

pub returns : goal.returns
returns c = worked_lists
