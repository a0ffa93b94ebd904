use Rattle.implib_tests.proofs.Read.Bounds.{worked_bounds as bounds}
use Rattle.implib_tests.proofs.reader.worked_bounds.Goals as goal

pub returns : goal.returns
returns c = bounds
