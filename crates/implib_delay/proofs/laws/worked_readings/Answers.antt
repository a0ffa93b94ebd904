use Rattle.implib_delay.proofs.WorkedReadings.{worked_readings}
use Rattle.implib_delay.proofs.laws.worked_readings.Goals as goal

pub returns : goal.returns
returns c = worked_readings
