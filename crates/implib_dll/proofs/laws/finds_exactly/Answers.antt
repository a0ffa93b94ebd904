use Rattle.implib_dll.proofs.Finding.{finds_exactly}
use Rattle.implib_dll.proofs.laws.finds_exactly.Goals as goal

pub returns : goal.returns
returns c = finds_exactly
