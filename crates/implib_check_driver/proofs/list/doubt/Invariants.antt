use Rattle.std.proofs.Common.{◌≡◌, ◌++◌, map, take}
use Rattle.implib_read.specs.ClassViews.{member_read_view}
use Rattle.implib_check_driver.specs.Listing.{doubts}
use Rattle.implib_check_driver.proofs.list.doubt.Given as goal

abbrev pub invariant-loop-member : goal.invariant-loop-member
invariant-loop-member l = l.err.items ≡ l.fn.err.items ++ doubts l.others l.path (map member_read_view (take l.member-index l.members))
