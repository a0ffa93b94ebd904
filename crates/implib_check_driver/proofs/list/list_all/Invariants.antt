use Rattle.std.proofs.Common.{◌≡◌, ◌++◌, map, take}
use Rattle.implib_read.specs.ClassViews.{member_read_view}
use Rattle.implib_check_driver.specs.Answer.{lines}
use Rattle.implib_check_driver.specs.Listing.{listed}
use Rattle.implib_check_driver.proofs.list.list_all.Given as goal

abbrev pub invariant-loop-member : goal.invariant-loop-member
invariant-loop-member l =
    l.out.items ≡ l.fn.out.items ++ lines l.form.is_json (listed l.path (map member_read_view (take l.member-index l.members)))
