use Rattle.std.proofs.Common.{◌≡◌, drop, map}
use Rattle.implib_compare.specs.Working.{has_one, has_one_from}
use Rattle.implib_read.specs.ClassViews.{member_read_view}
use Rattle.implib_compare.proofs.working.has_one.Given as goal

abbrev pub invariant-loop-member : goal.invariant-loop-member
invariant-loop-member l =
    has_one_from l.seen l.wanted (map member_read_view (drop l.member-index l.members)) ≡ has_one l.wanted (map member_read_view l.members)
