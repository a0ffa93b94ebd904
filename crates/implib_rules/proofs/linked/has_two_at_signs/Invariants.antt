use Rattle.std.proofs.Common.{◌≡◌, drop}
use Rattle.implib_rules.specs.Linked.{has_two_at_signs, two_at_signs}
use Rattle.implib_rules.proofs.linked.has_two_at_signs.Given as goal

-- what is left says it, with what stands before
abbrev pub invariant-loop-byte : goal.invariant-loop-byte
invariant-loop-byte l = has_two_at_signs l.word ≡ two_at_signs l.is_after (drop l.byte-index l.word)
