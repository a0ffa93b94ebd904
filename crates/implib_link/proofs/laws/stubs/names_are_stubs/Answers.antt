use Rattle.implib_link.proofs.Flavors.Stubs.{stub_at}
use Rattle.implib_link.proofs.laws.stubs.names_are_stubs.Goals as goal

pub returns : goal.returns
returns c = stub_at
