use Rattle.std.proofs.Common.{◌≡◌, drop, map}
use Rattle.std.specs.List.{list_any}
use Rattle.implib_compare.specs.Comparison.{has_unread}
use Rattle.implib_read.specs.ClassViews.{member_read_view}
use Rattle.implib_check_driver.proofs.joined.is_some_unread.Given as goal

abbrev pub invariant-loop-library : goal.invariant-loop-library
invariant-loop-library l =
    list_any has_unread (map (λ library. map member_read_view library.members.items) l.libraries)
    ≡ list_any has_unread (map (λ library. map member_read_view library.members.items) (drop l.library-index l.libraries))
