use Rattle.std.proofs.Common.{length}
use Rattle.implib_archive.specs.Written.{AppendsUpTo}
use Rattle.implib_archive.proofs.output.put.Given as goal

-- the writer has the bytes before those that are left
abbrev pub invariant-loop-rest : goal.invariant-loop-rest
invariant-loop-rest g l = AppendsUpTo (g.W.Write.contents l.fn.writer) (g.W.Write.contents l.writer) l.bytes l.rest

abbrev pub decreases-loop-rest : goal.decreases-loop-rest
decreases-loop-rest g l = length l.rest
