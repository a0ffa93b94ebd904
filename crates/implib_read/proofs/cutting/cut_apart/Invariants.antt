use Rattle.std.proofs.Common.{◌≡◌, map, take}
use Rattle.implib_read.specs.ArchiveViews.{member_view}
use Rattle.implib_read.specs.Cutting.{cut_apart}
use Rattle.implib_read.specs.CuttingViews.{cut_apart_view}
use Rattle.implib_read.proofs.cutting.cut_apart.Given as goal

-- what is found among the members so far
abbrev pub invariant-loop-member : goal.invariant-loop-member
invariant-loop-member l = map cut_apart_view l.found.items ≡ cut_apart (map member_view (take l.member-index l.members))
