use Rattle.implib_delay.proofs.WorkedCalls.{worked_code, worked_linked_code, worked_calls}
use Rattle.implib_delay.proofs.laws.worked_code.Goals as goal

pub returns : goal.returns
returns c = record { bytes = worked_code; linked = worked_linked_code; calls = worked_calls }
