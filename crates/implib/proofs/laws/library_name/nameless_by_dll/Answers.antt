use Rattle.implib.proofs.LibraryNames.{nameless, nameless_refusal}
use Rattle.implib.proofs.laws.library_name.nameless_by_dll.Goals as goal

pub returns : goal.returns
returns c = record { names = nameless; refusals = nameless_refusal }
