use Rattle.std.proofs.Common.{arith, map}
use Rattle.implib_c_calls.proofs.Answer.{leaves_lacking}
use Rattle.implib_c_calls.proofs.AnswerMembers.{members_put}
use Rattle.implib_c_calls.proofs.outcome.members_into.Goals as goal

pub returns-in-Ok : goal.returns-in-Ok
returns-in-Ok c = grind (arith, members_put, map, c.in-Ok.ensures.ok, c.as_slice.ensures.value, c.put_into.ensures)

pub returns-in-Err : goal.returns-in-Err
returns-in-Err c = leaves_lacking c.in-Err.failure c.in-Err.ensures.fault
