use Rattle.std.proofs.Common.{◌≡◌, drop}
use Rattle.std.specs.List.{list_any}
use Rattle.implib_compare.proofs.compare.is_some_set.Given as goal

abbrev pub invariant-loop-flag : goal.invariant-loop-flag
invariant-loop-flag l = list_any (λ flag. flag) (drop l.flag-index l.flags) ≡ list_any (λ flag. flag) l.flags
