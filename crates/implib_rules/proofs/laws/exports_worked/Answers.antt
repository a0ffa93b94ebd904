use Rattle.std.proofs.Common.{rules}
use Rattle.implib_rules.specs.Names.{part_after_last}
use Rattle.implib_rules.specs.Repeats.{without_repeated}
use Rattle.implib_rules.proofs.laws.exports_worked.Goals as goal

pub returns : goal.returns
unfolding without_repeated part_after_last
returns c = search rules
