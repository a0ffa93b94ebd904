use Rattle.std.proofs.Common.{rules}
use Rattle.implib.proofs.coff.layout.auxiliary_count.Goals as goal

pub returns-in-Some-clause-whole : goal.returns-in-Some-clause-whole
returns-in-Some-clause-whole c = rw c.in-Some.is (search rules)
