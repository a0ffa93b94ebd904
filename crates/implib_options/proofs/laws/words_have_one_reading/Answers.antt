use Rattle.implib_options.proofs.Unique.{one_reading}
use Rattle.implib_options.proofs.laws.words_have_one_reading.Goals as goal

pub returns : goal.returns
returns c = one_reading
