use Rattle.std.proofs.Common.{arith}
use Rattle.implib_archive.specs.Archive.{archive_of}
use Rattle.implib_archive.proofs.Puts.{begins_more, writes_as, writes_err, writes_then}
use Rattle.implib_archive.proofs.Whole.{archive_made}
use Rattle.implib_archive.proofs.writer.Archive.write_to.Goals as goal

pub returns-in_err-write_start : goal.returns-in_err-write_start
unfolding archive_of
returns-in_err-write_start g c = grind (arith, writes_err, begins_more, c.from_residual-in_err-write_start.ensures.0, c.in_err-write_start.ensures)

pub returns : goal.returns
returns g c = grind (arith, writes_as, archive_made c.self.invariant, writes_then, c.self.invariant, c.in_ok-write_start.ensures, c.write_members.ensures)
