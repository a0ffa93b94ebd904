use Rattle.std.proofs.Common.{◌≡◌, ◌+◌, length}
use Rattle.std.specs.Option.{option_map}
use Rattle.implib_read.specs.Arm64ec.{inner_mark_in}
use Rattle.implib_read.proofs.arm64ec.inner_mark_in.Given as goal

-- the first mark of the rest is the first of the whole
abbrev pub invariant-loop-rest : goal.invariant-loop-rest
invariant-loop-rest l = record {
  counted : l.place + length l.rest ≡ length l.text;
  found : option_map (λ place. l.place + place) (inner_mark_in l.rest) ≡ inner_mark_in l.text;
}

abbrev pub decreases-loop-rest : goal.decreases-loop-rest
decreases-loop-rest l = length l.rest
