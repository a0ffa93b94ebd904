use Rattle.std.proofs.Common.{arith}
use Rattle.implib_read.proofs.Records.{section_numbered-at}
use Rattle.implib_read.proofs.follow.section_numbered.Goals as goal

pub returns-else-number-eq0 : goal.returns-else-number-eq0
returns-else-number-eq0 c = grind (arith, section_numbered-at, c.section_of_index.ensures)
