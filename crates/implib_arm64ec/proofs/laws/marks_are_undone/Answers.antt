use Rattle.implib_arm64ec.proofs.Unmarked.{marks_are_undone}
use Rattle.implib_arm64ec.proofs.laws.marks_are_undone.Goals as goal

pub returns : goal.returns
returns c = marks_are_undone
