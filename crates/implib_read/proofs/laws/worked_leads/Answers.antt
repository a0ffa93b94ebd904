use Rattle.implib_read.proofs.WorkedBytes.{worked_leads}
use Rattle.implib_read.proofs.laws.worked_leads.Goals as goal

pub returns : goal.returns
returns c = worked_leads
