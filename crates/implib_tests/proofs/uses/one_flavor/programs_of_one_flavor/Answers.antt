use Rattle.implib_tests.proofs.Using.OneFlavor.{is_one_flavor, links_one_flavor, loads_one_flavor, writes_one_flavor}
use Rattle.implib_tests.proofs.uses.one_flavor.programs_of_one_flavor.Goals as goal

pub returns : goal.returns
returns c = record { program = is_one_flavor; links = links_one_flavor; loads = loads_one_flavor; writes = writes_one_flavor }
