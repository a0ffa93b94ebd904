use Rattle.implib_delay.proofs.WorkedObjects.{worked_names, worked_objects, worked_refusals}
use Rattle.implib_delay.proofs.laws.worked_members.Goals as goal

pub returns : goal.returns
returns c = record { objects = worked_objects; names = worked_names; refusals = worked_refusals }
