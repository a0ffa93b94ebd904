use Rattle.std.proofs.Common.{◌≡◌, ◌-◌, ◌^◌, length, min, take}
use Rattle.implib_archive.specs.Archive.{entries_from}
use Rattle.implib_archive.proofs.entries.count_of.Given as goal

-- the number of the symbols so far
abbrev pub invariant-loop-index : goal.invariant-loop-index
invariant-loop-index g l = l.count ≡ min (length (entries_from 1 (take l.index (g.S.Members.members l.source)))) (2 ^ 64 - 1)
