use Rattle.std.proofs.Common.{arith}
use Rattle.implib_archive.proofs.Whole.{length-archive}
use Rattle.implib_archive.proofs.writer.Archive.len.Goals as goal

pub returns : goal.returns
returns g c = grind (arith, length-archive, c.self.invariant, c.self.invariant.ends, c.self.invariant.accepted)
