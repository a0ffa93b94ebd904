use Rattle.std.proofs.Common.{◌≡◌, drop, map}
use Rattle.implib_read.specs.Archives.{ec_index_in}
use Rattle.implib_read.specs.ArchiveViews.{part_view}
use Rattle.implib_read.proofs.archive.ec_index.Given as goal

abbrev pub invariant-loop-part : goal.invariant-loop-part
invariant-loop-part l = ec_index_in (map part_view (drop l.part-index l.parts)) ≡ ec_index_in (map part_view l.parts)
