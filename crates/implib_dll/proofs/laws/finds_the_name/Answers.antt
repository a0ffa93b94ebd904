use Rattle.implib_dll.proofs.Finding.{finds_the_name}
use Rattle.implib_dll.proofs.laws.finds_the_name.Goals as goal

pub returns : goal.returns
returns c = finds_the_name
