use Rattle.implib_read.proofs.WorkedBytes.{worked_room}
use Rattle.implib_read.proofs.laws.worked_room.Goals as goal

pub returns : goal.returns
returns c = worked_room
