use Rattle.std.proofs.Common.{arith}
use Rattle.implib_delay.proofs.Sizes.{object_long, sizes_saturated}
use Rattle.implib_delay.proofs.objects.export_size.Goals as goal

pub returns : goal.returns
returns c = grind (arith, object_long, sizes_saturated, c.saturating_add-2.ensures, c.contents_size.ensures, c.saturating_add.ensures, c.export_symbols-symbols.ensures, c.names_size.ensures)
