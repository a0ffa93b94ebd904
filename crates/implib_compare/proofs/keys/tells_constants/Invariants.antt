use Rattle.std.proofs.Common.{◌≡◌, drop, map}
use Rattle.std.specs.List.{list_any}
use Rattle.implib_compare.specs.Facts.{has_untold}
use Rattle.implib_read.specs.ClassViews.{member_read_view}
use Rattle.implib_compare.proofs.keys.tells_constants.Given as goal

abbrev pub invariant-loop-member : goal.invariant-loop-member
invariant-loop-member l =
    list_any (λ m. has_untold m.class) (map member_read_view (drop l.member-index l.members))
    ≡ list_any (λ m. has_untold m.class) (map member_read_view l.members)
