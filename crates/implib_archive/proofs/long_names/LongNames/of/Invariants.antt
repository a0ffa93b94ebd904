use Rattle.std.proofs.Common.{take}
use Rattle.implib_archive.specs.Archive.{long_names}
use Rattle.implib_archive.specs.Pushed.{AreMeasured, shown}
use Rattle.implib_archive.proofs.long_names.LongNames.of.Given as goal

-- the names of the members so far
abbrev pub invariant-loop-index : goal.invariant-loop-index
invariant-loop-index g l = AreMeasured l.kind (long_names l.kind (take l.index (g.S.Members.members l.source))) (shown l.names.offsets.entries) l.names.size
