use Rattle.implib.proofs.Worked.Members.{worked_bytes, worked_fields, worked_meanings, worked_outlines, worked_refusals}
use Rattle.implib.proofs.laws.members.worked_members.Goals as goal

pub returns : goal.returns
returns c = record { outlines = worked_outlines; refusals = worked_refusals; meanings = worked_meanings; bytes = worked_bytes; fields = worked_fields }
