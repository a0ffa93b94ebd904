use Rattle.std.proofs.Common.{arith}
use Rattle.implib_delay.proofs.Readings.{read_back}
use Rattle.implib_delay.proofs.members.delayed_members.Goals as goal

pub returns-clause-reads : goal.returns-clause-reads
returns-clause-reads c = grind (arith, read_back, c.definition.ensures, c.from_def-library.ensures.held, c.in_ok-members.ensures.ok)
