use Rattle.implib_delay.proofs.WorkedCalls.{worked_premises, worked_answers}
use Rattle.implib_delay.proofs.laws.worked_premises.Goals as goal

pub returns : goal.returns
returns c = record { premises = worked_premises; answers = worked_answers }
