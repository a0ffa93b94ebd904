use Rattle.implib.proofs.LibraryNames.{base_of_named}
use Rattle.implib.proofs.laws.library_name.named_by_base.Goals as goal

pub returns : goal.returns
returns c = base_of_named
