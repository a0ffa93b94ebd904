use Rattle.implib.proofs.Worked.Heard.{worked_heard}
use Rattle.implib.proofs.laws.heard.worked_heard.Goals as goal

pub returns : goal.returns
returns c = worked_heard
