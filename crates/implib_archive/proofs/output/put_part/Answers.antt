use Rattle.std.proofs.Common.{◌++◌, ◌%◌, ◌≤◌, arith, length}
use Rattle.implib_archive.specs.Parts.{padding}
use Rattle.implib_archive.proofs.Appended.{take_replicate}
use Rattle.implib_archive.proofs.Puts.{begins_more, writes_as, writes_err, writes_then}
use Rattle.implib_archive.proofs.output.put_part.Goals as goal

pub returns-in_err-put_both : goal.returns-in_err-put_both
returns-in_err-put_both g c = writes_err c.from_residual.result _ _ _ c.from_residual.ensures.0 (begins_more _ _ (c.args.header.now ++ c.args.bytes.now) (padding 10 (length c.args.bytes.now)) c.in_err-put_both.ensures)

pub returns : goal.returns
unfolding padding
returns g c =
    let within : length c.args.bytes.now % 2 ≤ 1 = omega arith in
    writes_then c.put.result _ _ _ (c.args.header.now ++ c.args.bytes.now) (padding 10 (length c.args.bytes.now)) c.in_ok-put_both.ensures
    (writes_as c.put.result _ _ (take_replicate (length c.args.bytes.now % 2) 1 10 within) c.put.ensures)
