use Rattle.implib_delay.proofs.Readings.{read_back}
use Rattle.implib_delay.proofs.laws.members_read_back.Goals as goal

pub returns : goal.returns
returns c = read_back
