use Rattle.std.proofs.Common.{◌≡◌, drop, map}
use Rattle.implib_compare.specs.Working.{linker_member}
use Rattle.implib_read.specs.ArchiveViews.{part_view}
use Rattle.implib_compare.proofs.working.linker_member.Given as goal

abbrev pub invariant-loop-part : goal.invariant-loop-part
invariant-loop-part l =
    linker_member l.skipped (map part_view (drop l.part-index l.parts)) ≡ linker_member l.fn.skipped (map part_view l.parts)
