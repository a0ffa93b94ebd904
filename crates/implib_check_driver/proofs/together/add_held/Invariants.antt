use Rattle.std.proofs.Common.{◌≡◌, ◌++◌, map, take}
use Rattle.implib_check_driver.specs.Together.{claim_for, claim_view}
use Rattle.implib_check_driver.proofs.together.add_held.Given as goal

abbrev pub invariant-loop-text : goal.invariant-loop-text
invariant-loop-text l =
    map claim_view l.claims.items ≡ map claim_view l.fn.claims.items ++ map (claim_for l.making.library l.making.member l.making.made.now) (map (λ t. t.items) (take l.text-index l.texts))
