use Rattle.std.proofs.Common.{arith, refl}
use Rattle.implib_archive.specs.Archive.{entries_from}
use Rattle.implib_archive.proofs.Listed.{count_more}
use Rattle.implib_archive.proofs.entries.count_of.Goals as goal

pub loop-index-init : goal.loop-index-init
unfolding entries_from
loop-index-init g c = refl

pub loop-index-preserved : goal.loop-index-preserved
loop-index-preserved g c = grind (arith, count_more, c.loop-index-test.true, c.count-index-end.ensures, c.symbol_count.ensures, c.loop-index.invariant, c.saturating_add-count.ensures)
