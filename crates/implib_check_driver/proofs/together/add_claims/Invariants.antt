use Rattle.std.proofs.Common.{◌≡◌, ◌++◌, drop, map}
use Rattle.implib_read.specs.ClassViews.{member_read_view}
use Rattle.implib_check_driver.specs.Together.{claim_view, claims_from}
use Rattle.implib_check_driver.proofs.together.add_claims.Given as goal

-- those so far, and those of the members that are left
abbrev pub invariant-loop-i : goal.invariant-loop-i
invariant-loop-i l = map claim_view l.claims.items ++ claims_from l.library l.i (map member_read_view (drop l.i l.members))
    ≡ map claim_view l.fn.claims.items ++ claims_from l.library 0 (map member_read_view l.members)
