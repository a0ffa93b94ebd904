use Rattle.implib_dll.proofs.Finding.{hints_change_nothing}
use Rattle.implib_dll.proofs.laws.hints_change_nothing.Goals as goal

pub returns : goal.returns
returns c = hints_change_nothing
