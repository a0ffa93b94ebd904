use Rattle.std.proofs.Common.{rules, arith}
use Rattle.std.proofs.lemmas.Result.{err_from_is_err_and}
use Rattle.implib_dll.proofs.Steps.{reads-end, reads-fault, reads-more}
use Rattle.implib_dll.proofs.imports.each_ask.Goals as goal

pub returns-in_err-ask : goal.returns-in_err-ask
returns-in_err-ask c =
    let l = c.loop-number in
    let p = err_from_is_err_and c.from_residual.result c.from_residual.ensures.1 in
    rw (p.1, p.2) (reads-fault c.in_err-ask.field-0.0 _ _ _ l.number c.args.count l.left c.loop-number-test.true c.in_err-ask.ensures l.invariant)

pub loop-number-preserved : goal.loop-number-preserved
loop-number-preserved c = grind (arith, reads-more, c.in_ok-push.ensures.items, c.loop-number-test.true, c.in_ok-ask.ensures, c.loop-number.invariant)

pub returns : goal.returns
returns c = search (rules, reads-end, c.loop-number-test.false, c.loop-number.invariant)
