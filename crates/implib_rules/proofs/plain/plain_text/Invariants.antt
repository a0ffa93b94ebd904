use Rattle.std.proofs.Common.{◌≡◌, ◌++◌, length}
use Rattle.implib_rules.specs.Plain.{plain_from, plain_text}
use Rattle.implib_rules.proofs.plain.plain_text.Given as goal

-- the text so far, and that of what is left, are the whole
abbrev pub invariant-loop-text : goal.invariant-loop-text
invariant-loop-text l = l.plain.items ++ plain_from l.reading l.text ≡ plain_text l.bytes

abbrev pub decreases-loop-text : goal.decreases-loop-text
decreases-loop-text l = length l.text
