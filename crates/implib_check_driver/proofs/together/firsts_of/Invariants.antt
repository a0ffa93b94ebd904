use Rattle.std.proofs.Common.{◌≡◌, ℕ, List, bytes_eq, map, take}
use Rattle.std.specs.HashMap.{get_by}
use Rattle.implib_check_driver.specs.Together.{claim_view, first_of}
use Rattle.implib_check_driver.proofs.together.firsts_of.Given as goal

abbrev pub invariant-loop-i : goal.invariant-loop-i
invariant-loop-i l = (other : List ℕ) → get_by (λ k. bytes_eq other k.now) l.firsts ≡ first_of 0 (map claim_view (take l.i l.claims)) other
