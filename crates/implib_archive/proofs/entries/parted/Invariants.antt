use Rattle.std.proofs.Common.{◌++◌, take}
use Rattle.std.specs.List.Sorted.{IsPermutation}
use Rattle.implib_archive.proofs.entries.parted.Given as goal

-- the entries so far are in one of the four parts
abbrev pub invariant-loop-entry : goal.invariant-loop-entry
invariant-loop-entry l = IsPermutation (take l.entry-index l.entries) (l.parted.items ++ (l.auxiliary.items ++ (l.marked.items ++ l.others.items)))
