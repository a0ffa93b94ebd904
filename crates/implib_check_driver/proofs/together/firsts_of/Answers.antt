use Rattle.std.proofs.Common.{rules}
use Rattle.implib_check_driver.specs.Together.{claim_view}
use Rattle.implib_check_driver.proofs.Claims.{firsts_more}
use Rattle.implib_check_driver.proofs.together.firsts_of.Goals as goal

pub loop-i-preserved : goal.loop-i-preserved
loop-i-preserved c = λ other.
    firsts_more claim_view c.args.claims.now c.loop-i.i c.index-claims-i.result other c.deref.result.now _ _ (search rules)
    c.deref.ensures.value (c.in_ok-note.ensures other) (c.loop-i.invariant other)
