use Rattle.std.proofs.Common.{vec_len, arith}
use Rattle.implib_dll.proofs.RowNames.{name_added, name_passed}
use Rattle.implib_dll.proofs.rows.add_names.Goals.{then-index-len+in_ok-add_name, else-index-len}
use Rattle.implib_dll.proofs.rows.add_names.Goals as goal

pub loop-name-preserved : goal.loop-name-preserved
loop-name-preserved c = grind (arith, vec_len, then-index-len+in_ok-add_name, name_added, else-index-len, name_passed, c.if-index-len.branch, c.loop-name-test.true, c.len.ensures, c.loop-name.invariant)
