use Rattle.std.proofs.Common.{arith}
use Rattle.implib_tool_driver.proofs.ParsedReadings.{members_of}
use Rattle.implib_tool_driver.proofs.run.members_of.Goals as goal

pub returns-clause-ok : goal.returns-clause-ok
returns-clause-ok c = grind (arith, members_of, c.in_ok-library.ensures.ok, c.in_ok-members.ensures.ok, c.in_ok-members.ensures.reads)
