use Rattle.std.proofs.Common.{◌≡◌, drop, map}
use Rattle.implib_check_driver.specs.Targets.{machine_of}
use Rattle.implib_read.specs.ClassViews.{member_read_view}
use Rattle.implib_check_driver.proofs.target.machine_of.Given as goal

abbrev pub invariant-loop-member : goal.invariant-loop-member
invariant-loop-member l =
    machine_of (map member_read_view (drop l.member-index l.members)) ≡ machine_of (map member_read_view l.members)
