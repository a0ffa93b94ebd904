use Rattle.implib_link.proofs.Parts.Members.{older_stub_beside, stub_beside}
use Rattle.implib_link.proofs.laws.parts.names_are_stubs_beside_others.Goals as goal

pub returns : goal.returns
returns c = record { stubs = stub_beside; older = older_stub_beside }
