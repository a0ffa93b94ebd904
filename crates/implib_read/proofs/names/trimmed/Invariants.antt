use Rattle.std.proofs.Common.{◌≡◌, ◌≤◌, length, take}
use Rattle.implib_archive.specs.Reader.{trimmed}
use Rattle.implib_read.proofs.names.trimmed.Given as goal

abbrev pub invariant-loop-end : goal.invariant-loop-end
invariant-loop-end l = (trimmed l.text ≡ trimmed (take l.end l.text)) × (l.end ≤ length l.text)

abbrev pub decreases-loop-end : goal.decreases-loop-end
decreases-loop-end l = l.end
