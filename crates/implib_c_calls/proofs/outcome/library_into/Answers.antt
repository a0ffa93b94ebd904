use Rattle.std.proofs.Common.{arith}
use Rattle.implib_c_calls.proofs.Answer.{leaves_lacking}
use Rattle.implib_c_calls.proofs.AnswerMembers.{lacks_library, members_packed}
use Rattle.implib_c_calls.proofs.outcome.library_into.Goals as goal

pub returns-in-Ok : goal.returns-in-Ok
returns-in-Ok c = grind (arith, members_packed, c.in-Ok.ensures.ok, c.as_slice.ensures.value, c.kind_of_flavor.ensures, c.pack_into.ensures)

pub returns-in-Err : goal.returns-in-Err
returns-in-Err c = leaves_lacking c.in-Err.failure (lacks_library c.args.text.now c.args.machine c.args.flavor c.in-Err.failure c.in-Err.ensures.fault)
