use Rattle.std.proofs.Common.{arith, length}
use Rattle.implib_c_calls.proofs.Within.{offset_fits}
use Rattle.implib_c_calls.proofs.library_with.place_in.Goals as goal

pub overflow_add-result : goal.overflow_add-result
overflow_add-result c = grind (arith, length, offset_fits, c.requires, c.mark_length.ensures)
