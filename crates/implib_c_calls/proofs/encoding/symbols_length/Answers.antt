use Rattle.std.proofs.Common.{arith, map, length}
use Rattle.implib_c_calls.proofs.Lengths.{list_size}
use Rattle.implib_c_calls.proofs.Lists.{mapped_all}
use Rattle.implib_c_calls.proofs.encoding.symbols_length.Goals as goal

pub returns : goal.returns
returns c = grind (arith, list_size, map, length, mapped_all, c.loop-symbol-test.false)
