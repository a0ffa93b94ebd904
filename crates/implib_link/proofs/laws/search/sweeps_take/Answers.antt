use Rattle.implib_link.proofs.Search.Sweeps.{sweeps_take}
use Rattle.implib_link.proofs.laws.search.sweeps_take.Goals as goal

pub returns : goal.returns
returns c = record { takes = λ reads archive own count numbers distinct takes. sweeps_take reads archive own distinct count numbers takes }
