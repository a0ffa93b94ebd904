use Rattle.implib.proofs.Worked.Gnu.{worked_gnu_bytes, worked_gnu_outlines, worked_gnu_refusals}
use Rattle.implib.proofs.laws.members.worked_gnu_members.Goals as goal

pub returns : goal.returns
returns c = record { outlines = worked_gnu_outlines; refusals = worked_gnu_refusals; bytes = worked_gnu_bytes }
