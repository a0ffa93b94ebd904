use Rattle.implib_libraries.proofs.Weak.{none_is_weak}
use Rattle.implib_libraries.proofs.arm64ec.laws.none_is_weak.Goals as goal

pub returns : goal.returns
returns c = none_is_weak
