use Rattle.std.proofs.Common.{◌≡◌, drop, map}
use Rattle.implib_read.specs.Archives.{long_names_in}
use Rattle.implib_read.specs.ArchiveViews.{part_view}
use Rattle.implib_read.proofs.archive.long_names.Given as goal

abbrev pub invariant-loop-part : goal.invariant-loop-part
invariant-loop-part l = long_names_in (map part_view (drop l.part-index l.parts)) ≡ long_names_in (map part_view l.parts)
