use Rattle.implib_link.proofs.Flavors.Steady.{writer_ends, writer_loads}
use Rattle.implib_link.proofs.laws.tables.loader_writes.Goals as goal

pub returns : goal.returns
returns c = record { loads = writer_loads; ends = writer_ends }
