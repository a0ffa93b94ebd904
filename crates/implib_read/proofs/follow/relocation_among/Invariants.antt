use Rattle.std.proofs.Common.{◌≡◌, ◌==◌, length}
use Rattle.std.specs.List.{find}
use Rattle.implib_read.specs.Objects.{relocations_of}
use Rattle.implib_read.proofs.follow.relocation_among.Given as goal

abbrev pub invariant-loop-rest : goal.invariant-loop-rest
invariant-loop-rest l = find (λ r. r.offset == l.fn.offset) (relocations_of l.rest) ≡ find (λ r. r.offset == l.fn.offset) (relocations_of l.records)

abbrev pub decreases-loop-rest : goal.decreases-loop-rest
decreases-loop-rest l = length l.rest
