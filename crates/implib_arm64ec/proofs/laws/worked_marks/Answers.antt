use Rattle.implib_arm64ec.proofs.WorkedMarks.{worked_crafted_names, worked_marks, worked_names, worked_refusals}
use Rattle.implib_arm64ec.proofs.laws.worked_marks.Goals as goal

pub returns : goal.returns
returns c = record { marks = worked_marks; names = worked_names; crafted = worked_crafted_names; refusals = worked_refusals }
