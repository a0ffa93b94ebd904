use Rattle.implib_rules.proofs.OfExports.{libraries_are_of_exports}
use Rattle.implib_rules.proofs.laws.libraries_are_of_exports.Goals as goal

pub returns : goal.returns
returns c = libraries_are_of_exports
