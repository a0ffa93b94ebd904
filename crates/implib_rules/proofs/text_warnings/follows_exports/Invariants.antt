use Rattle.std.proofs.Common.{◌≡◌, length, true}
use Rattle.implib_rules.specs.TextWarnings.{follows_exports}
use Rattle.implib_rules.proofs.text_warnings.follows_exports.Given as goal

-- what follows in what is left is what follows in all
abbrev pub invariant-loop-left : goal.invariant-loop-left
invariant-loop-left l = follows_exports l.starts l.left ≡ follows_exports true l.text

abbrev pub decreases-loop-left : goal.decreases-loop-left
decreases-loop-left l = length l.left
