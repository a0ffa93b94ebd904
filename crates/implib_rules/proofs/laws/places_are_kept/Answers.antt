use Rattle.implib_rules.proofs.PlainPlaces.{places_kept}
use Rattle.implib_rules.proofs.laws.places_are_kept.Goals as goal

pub returns : goal.returns
returns c = places_kept
