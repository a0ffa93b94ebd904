use Rattle.implib_tests.proofs.Objects.{bytes_of_objects}
use Rattle.implib_tests.proofs.laws.worked_objects.Goals as goal

pub returns : goal.returns
returns c = bytes_of_objects
