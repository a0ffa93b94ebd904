use Rattle.implib_rules.proofs.OneDefinition.{one_library}
use Rattle.implib_c_calls.proofs.laws.one_library.Goals as goal

pub returns : goal.returns
returns c = one_library
