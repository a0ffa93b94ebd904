use Rattle.std.proofs.Common.{arith}
use Rattle.implib_dll.proofs.RowNames.{row_pushed}
use Rattle.implib_dll.proofs.exports.Exports.rows.Goals as goal

pub loop-index-preserved : goal.loop-index-preserved
loop-index-preserved c = grind (arith, row_pushed, c.loop-index-test.true, c.len-index-end.ensures, c.in_ok-push.ensures.items, c.ordinal_of.ensures, c.index.ensures, c.new.ensures.items, c.loop-index.invariant)
