use Rattle.std.proofs.Common.{rules}
use Rattle.implib_rules.specs.Names.{part_after_last}
use Rattle.implib_rules.proofs.laws.dlls_named.Goals as goal

pub returns : goal.returns
unfolding part_after_last
returns c = search rules
