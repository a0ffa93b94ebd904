use Rattle.std.proofs.Common.{arith, map}
use Rattle.implib_c_calls.proofs.CheckAnswers.{encodes_check}
use Rattle.implib_c_calls.proofs.check.read_check.Goals as goal

pub returns-clause-ok : goal.returns-clause-ok
returns-clause-ok c = grind (arith, map, encodes_check, c.in-Some.is, c.in_ok-meant.ensures.members, c.in_ok-file.ensures.library, c.deref.ensures.value, c.deref-2.ensures.value, c.in_ok-bytes.ensures)
