use Rattle.std.proofs.Common.{◌≡◌, ◌++◌, length, reverse}
use Rattle.implib_arm64ec.proofs.reading.push_reversed.Given as goal

-- what is pushed and what is left are all parts
abbrev pub invariant-loop-rest : goal.invariant-loop-rest
invariant-loop-rest l = l.stack.items ++ reverse l.rest ≡ l.initial.stack.items ++ reverse l.parts

abbrev pub decreases-loop-rest : goal.decreases-loop-rest
decreases-loop-rest l = length l.rest
