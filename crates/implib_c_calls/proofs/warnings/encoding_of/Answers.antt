use Rattle.std.proofs.Common.{arith, length}
use Rattle.implib_c_calls.proofs.WarningsSaid.{encodes_all, pushes_none, pushes_one}
use Rattle.implib_c_calls.proofs.warnings.encoding_of.Goals as goal

pub loop-warning-init : goal.loop-warning-init
loop-warning-init c = pushes_none c.args.mark (length c.args.warnings.now) c.new-bytes.result.items c.push_number.new.bytes.items c.new-bytes.ensures.items c.in_ok-push_number.ensures

pub loop-warning-preserved : goal.loop-warning-preserved
loop-warning-preserved c = grind (arith, pushes_one, c.loop-warning.invariant, c.loop-warning-test.true, c.in_ok-push_warning.ensures)

pub returns : goal.returns
returns c = encodes_all c.args.mark c.args.warnings.now c.loop-warning.warning-index c.loop-warning.bytes.items c.loop-warning.invariant c.loop-warning-test.false
