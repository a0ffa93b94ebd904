use Rattle.std.proofs.Common.{rules, arith}
use Rattle.std.proofs.lemmas.Result.{err_from_is_err_and}
use Rattle.implib_dll.proofs.Steps.{reads-end, reads-fault, reads-more}
use Rattle.implib_dll.proofs.imports.each_dll.Goals as goal

pub returns-in_err-dll : goal.returns-in_err-dll
returns-in_err-dll c =
    let l = c.loop-number in
    let p = err_from_is_err_and c.from_residual.result c.from_residual.ensures.1 in
    rw (p.1, p.2) (reads-fault c.in_err-dll.field-0.0 _ _ _ l.number c.args.count l.left c.loop-number-test.true c.in_err-dll.ensures l.invariant)

pub loop-number-preserved : goal.loop-number-preserved
loop-number-preserved c = grind (arith, reads-more, c.in_ok-push.ensures.items, c.loop-number-test.true, c.in_ok-dll.ensures, c.loop-number.invariant)

pub returns : goal.returns
returns c = search (rules, reads-end, c.loop-number-test.false, c.loop-number.invariant)
