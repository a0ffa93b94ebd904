use Rattle.std.proofs.Common.{rules, arith}
use Rattle.std.proofs.lemmas.Result.{err_from_is_err_and}
use Rattle.implib_dll.proofs.Steps.{reads-end, reads-fault, reads-more}
use Rattle.implib_dll.proofs.target.targets_in.Goals as goal

pub returns-in_err-target : goal.returns-in_err-target
returns-in_err-target c =
    let l = c.loop-index in
    let p = err_from_is_err_and c.from_residual.result c.from_residual.ensures.1 in
    rw (p.1, p.2) (reads-fault c.in_err-target.field-0.0 _ _ _ l.index c.args.count l.left c.loop-index-test.true c.in_err-target.ensures l.invariant)

pub loop-index-preserved : goal.loop-index-preserved
loop-index-preserved c = grind (arith, reads-more, c.in_ok-push.ensures.items, c.loop-index-test.true, c.in_ok-target.ensures, c.loop-index.invariant)

pub returns : goal.returns
returns c = search (rules, reads-end, c.loop-index-test.false, c.loop-index.invariant)
