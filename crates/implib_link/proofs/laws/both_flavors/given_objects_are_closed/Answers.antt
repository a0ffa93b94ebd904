use Rattle.implib_link.proofs.Search.Taken.{both_given_closes}
use Rattle.implib_link.proofs.laws.both_flavors.given_objects_are_closed.Goals as goal

pub returns : goal.returns
returns c = both_given_closes
