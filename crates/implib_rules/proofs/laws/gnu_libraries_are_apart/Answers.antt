use Rattle.implib_rules.proofs.LibrariesApart.{apart}
use Rattle.implib_rules.proofs.laws.gnu_libraries_are_apart.Goals as goal

pub returns : goal.returns
returns c = apart
