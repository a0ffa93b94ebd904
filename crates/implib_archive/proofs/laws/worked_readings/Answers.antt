use Rattle.implib_archive.proofs.WorkedBytes.{worked_readings}
use Rattle.implib_archive.proofs.laws.worked_readings.Goals as goal

pub returns : goal.returns
returns c = worked_readings
