use Rattle.std.proofs.Common.{arith}
use Rattle.implib_arm64ec.proofs.Accepted.{accepted_library, length-ec_archive}
use Rattle.implib_arm64ec.proofs.archive.Archive.len.Goals as goal

pub returns : goal.returns
returns c = grind (arith, length-ec_archive, accepted_library, c.self.invariant, c.self.invariant.ends, c.self.invariant.accepted)
