use Rattle.std.proofs.Common.{◌≡◌, ◌+◌, length}
use Rattle.std.specs.Prelude.{option_map}
use Rattle.implib_arm64ec.specs.Marks.{mark_position}
use Rattle.implib_arm64ec.proofs.names.mark_position.Given as goal

-- the first mark of the rest is the first of the whole
abbrev pub invariant-loop-rest : goal.invariant-loop-rest
invariant-loop-rest l = record {
  counted : l.place + length l.rest ≡ length l.text;
  found : option_map (λ place. l.place + place) (mark_position l.rest) ≡ mark_position l.text;
}

abbrev pub decreases-loop-rest : goal.decreases-loop-rest
decreases-loop-rest l = length l.rest
