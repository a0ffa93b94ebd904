use denote.Text.{Utf8}
use denote.Shadow.{shadow}
use Rattle.std.proofs.Common.{◌≡◌, length}
use Rattle.implib_rules.specs.Names.{part_after_last}
use Rattle.implib_rules.proofs.name.part_after_last.Given as goal

-- what is left has the name's last part
abbrev pub invariant-loop-after : goal.invariant-loop-after
invariant-loop-after l = shadow (Utf8 l.part) × (part_after_last l.separator l.name ≡ part_after_last l.separator l.part)

abbrev pub decreases-loop-after : goal.decreases-loop-after
decreases-loop-after l = length l.part
