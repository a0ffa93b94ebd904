use Rattle.std.proofs.Common.{arith}
use Rattle.implib_c_calls.proofs.AnswerMembers.{lacks_by_text}
use Rattle.implib_c_calls.proofs.outcome.read_members.Goals as goal

pub returns-in-Err-members_of-clause-fault : goal.returns-in-Err-members_of-clause-fault
returns-in-Err-members_of-clause-fault c =
    grind (arith, lacks_by_text, c.machine_with.ensures, c.in-Some.is, c.flavor_with.ensures, c.in-Some-flavor_with.is, c.in-Ok.ensures.cases.1, c.in-Ok.ensures.cases.0, c.in-Err-members_of.ensures.fault)
