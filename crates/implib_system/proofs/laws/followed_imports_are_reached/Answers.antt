use Rattle.implib_system.proofs.Followed.{followed_reached}
use Rattle.implib_system.proofs.laws.followed_imports_are_reached.Goals as goal

pub returns : goal.returns
returns c = followed_reached
