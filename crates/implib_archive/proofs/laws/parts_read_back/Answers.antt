use Rattle.implib_archive.proofs.Readings.{parts_read_back}
use Rattle.implib_archive.proofs.laws.parts_read_back.Goals as goal

pub returns : goal.returns
returns c = parts_read_back
