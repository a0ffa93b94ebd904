use Rattle.std.proofs.Common.{◌≡◌, ◌++◌, drop, map}
use Rattle.implib_read.specs.ClassViews.{member_read_view}
use Rattle.implib_check_driver.specs.Together.{claim_view, claims_of_all}
use Rattle.implib_check_driver.proofs.joined.all_claims.Given as goal

-- those so far, and those of the libraries that are left
abbrev pub invariant-loop-i : goal.invariant-loop-i
invariant-loop-i l = map claim_view l.claims.items
    ++ claims_of_all l.i (map (λ library. map member_read_view library.members.items) (drop l.i l.libraries))
    ≡ claims_of_all 0 (map (λ library. map member_read_view library.members.items) l.libraries)
