use Rattle.std.proofs.Common.{rules}
use Rattle.implib_rules.specs.Warnings.{warnings_from}
use Rattle.implib_rules.proofs.laws.warnings_worked.Goals as goal

pub returns : goal.returns
unfolding warnings_from
returns c = search rules
