use Rattle.implib_rules.proofs.LeftOut.{left_out_at}
use Rattle.implib_rules.proofs.laws.repeats_are_left_out.Goals as goal

pub returns : goal.returns
returns c = left_out_at
