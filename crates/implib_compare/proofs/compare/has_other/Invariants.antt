use Rattle.std.proofs.Common.{◌≡◌, drop, map}
use Rattle.std.specs.List.{list_any}
use Rattle.implib_compare.specs.Comparison.{is_other}
use Rattle.implib_read.specs.ClassViews.{member_read_view}
use Rattle.implib_compare.proofs.compare.has_other.Given as goal

abbrev pub invariant-loop-member : goal.invariant-loop-member
invariant-loop-member l =
    list_any (λ m. is_other m.class) (map member_read_view (drop l.member-index l.members))
    ≡ list_any (λ m. is_other m.class) (map member_read_view l.members)
