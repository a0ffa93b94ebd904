use Rattle.std.proofs.Common.{arith}
use Rattle.implib_rules.proofs.Targets.{linked_by-all, linked_by-plain, targets_beside-plain}
use Rattle.implib_rules.proofs.aliases.msvc_links.Goals as goal

pub returns-then-not-has_targets : goal.returns-then-not-has_targets
returns-then-not-has_targets c = grind (arith, linked_by-plain, targets_beside-plain)

pub returns : goal.returns
returns c = grind (arith, linked_by-all)
