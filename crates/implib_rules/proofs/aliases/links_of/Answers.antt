use Rattle.std.proofs.Common.{arith}
use Rattle.implib_rules.proofs.Targets.{linked_by-none}
use Rattle.implib_rules.proofs.aliases.links_of.Goals as goal

pub returns-in-Gnu : goal.returns-in-Gnu
returns-in-Gnu c = grind (arith, linked_by-none)
