use Rattle.implib_compare.proofs.Computed.{worked_comparisons}
use Rattle.implib_compare.proofs.laws.worked_comparisons.Goals as goal

pub returns : goal.returns
returns c = worked_comparisons
