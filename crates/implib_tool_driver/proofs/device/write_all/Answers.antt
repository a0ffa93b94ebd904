use Rattle.std.proofs.Common.{arith}
use Rattle.implib_tool_driver.proofs.Running.{written_more}
use Rattle.implib_tool_driver.proofs.device.write_all.Goals as goal

pub loop-rest-preserved : goal.loop-rest-preserved
loop-rest-preserved g c = grind (arith, written_more, c.in_ok-count.ensures.sound, c.if-count-eq0.false, c.loop-rest.invariant.sound, c.loop-rest.invariant.written, c.in_ok-count.ensures.moved)
