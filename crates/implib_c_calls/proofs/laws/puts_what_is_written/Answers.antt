use Rattle.implib_c_calls.proofs.WrittenAlike.{puts_what_is_written}
use Rattle.implib_c_calls.proofs.laws.puts_what_is_written.Goals as goal

pub returns : goal.returns
returns c = puts_what_is_written
