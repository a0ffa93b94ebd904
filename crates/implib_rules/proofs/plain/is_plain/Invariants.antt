use Rattle.std.proofs.Common.{◌≡◌, length}
use Rattle.implib_rules.specs.Plain.{plain_from, plain_text}
use Rattle.implib_rules.proofs.plain.is_plain.Given as goal

-- all bytes are their own text just where what is left is
abbrev pub invariant-loop-text : goal.invariant-loop-text
invariant-loop-text l =
    (plain_from l.reading l.text ≡ l.text → plain_text l.bytes ≡ l.bytes)
    × (plain_text l.bytes ≡ l.bytes → plain_from l.reading l.text ≡ l.text)

abbrev pub decreases-loop-text : goal.decreases-loop-text
decreases-loop-text l = length l.text
