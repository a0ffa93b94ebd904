use Rattle.std.proofs.Common.{◌≡◌, Some, take}
use Rattle.std.specs.List.{fold}
use Rattle.implib_rules.specs.Plain.{hex_on}
use Rattle.implib_rules.proofs.plain.hex_of.Given as goal

-- the number of the digits so far
abbrev pub invariant-loop-byte : goal.invariant-loop-byte
invariant-loop-byte l = l.number ≡ fold hex_on (Some (record { value = 0; power = 10 })) (take l.byte-index l.word)
