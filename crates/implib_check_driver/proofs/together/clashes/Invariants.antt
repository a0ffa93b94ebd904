use Rattle.std.proofs.Common.{◌≡◌, map, take}
use Rattle.implib_check_driver.specs.Together.{claim_view, clash_of}
use Rattle.implib_check_driver.proofs.together.clashes.Given as goal

abbrev pub invariant-loop-claim : goal.invariant-loop-claim
invariant-loop-claim l = l.found.items ≡ map (clash_of (map claim_view l.claims)) (map claim_view (take l.claim-index l.claims))
