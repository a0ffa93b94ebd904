use Rattle.implib.proofs.Worked.LibraryNames.{worked_library_names}
use Rattle.implib.proofs.laws.library_name.worked_library_names.Goals as goal

pub returns : goal.returns
returns c = worked_library_names
