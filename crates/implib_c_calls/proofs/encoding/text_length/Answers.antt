use Rattle.std.proofs.Common.{arith, length}
use Rattle.implib_c_calls.proofs.Lengths.{some_as, text_size}
use Rattle.implib_c_calls.proofs.encoding.text_length.Goals as goal

pub returns : goal.returns
returns c = grind (arith, some_as, length, text_size, c.checked_add.ensures)
