use Rattle.std.proofs.Common.{◌≡◌, drop, map}
use Rattle.implib_check_driver.specs.Targets.{has_arm64ec}
use Rattle.implib_read.specs.ClassViews.{member_read_view}
use Rattle.implib_check_driver.proofs.target.has_arm64ec.Given as goal

abbrev pub invariant-loop-member : goal.invariant-loop-member
invariant-loop-member l =
    has_arm64ec (map member_read_view (drop l.member-index l.members)) ≡ has_arm64ec (map member_read_view l.members)
