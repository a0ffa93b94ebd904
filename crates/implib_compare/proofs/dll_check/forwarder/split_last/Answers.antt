use Rattle.std.proofs.Common.{arith, length}
use Rattle.implib_compare.proofs.DllCheck.Forwarders.{split_before, split_found, split_past}
use Rattle.implib_compare.proofs.dll_check.forwarder.split_last.Goals as goal

pub loop-end-init : goal.loop-end-init
loop-end-init c = (split_past c.args.text.now (length c.args.text.now) (omega arith), omega arith)

pub returns-then-text-end-eq46 : goal.returns-then-text-end-eq46
returns-then-text-end-eq46 c =
    let l = c.loop-end in
    split_found c.args.text.now l.end c.loop-end-test.true l.invariant.1 c.if-text-end-eq46.true l.invariant.0

pub loop-end-preserved : goal.loop-end-preserved
loop-end-preserved c =
    let l = c.loop-end in
    (split_before c.args.text.now l.end c.loop-end-test.true l.invariant.1 c.if-text-end-eq46.false l.invariant.0, omega (arith, l.invariant.1))
