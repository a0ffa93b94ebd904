use Rattle.std.proofs.Common.{arith, refl}
use Rattle.implib.specs.Formats.Writer.{long_names}
use Rattle.implib_delay.proofs.Sizes.{next_name, saturated_more}
use Rattle.implib_delay.proofs.string_table.names_size.Goals as goal

pub loop-index-init : goal.loop-index-init
unfolding long_names
loop-index-init c = refl

pub loop-index-preserved : goal.loop-index-preserved
loop-index-preserved c = grind (arith, saturated_more, next_name, c.saturating_add-size.ensures, c.added_size.ensures, c.loop-index.invariant, c.loop-index-test.true)
