use Rattle.implib_archive.proofs.Puts.{begins_more, writes_err, writes_then}
use Rattle.implib_archive.proofs.output.put_both.Goals as goal

pub returns-in_err-put : goal.returns-in_err-put
returns-in_err-put g c = writes_err c.from_residual.result _ _ _ c.from_residual.ensures.0 (begins_more _ _ c.args.first.now c.args.second.now c.in_err-put.ensures)

pub returns : goal.returns
returns g c = writes_then c.put-2.result _ _ _ c.args.first.now c.args.second.now c.in_ok-put.ensures c.put-2.ensures
