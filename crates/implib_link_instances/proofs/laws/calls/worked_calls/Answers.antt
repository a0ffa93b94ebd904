use Rattle.implib_link_instances.proofs.Worked.Calls.{worked_reading}
use Rattle.implib_link_instances.proofs.laws.calls.worked_calls.Goals as goal

pub returns : goal.returns
returns c = worked_reading
