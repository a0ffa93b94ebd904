use Rattle.std.proofs.Common.{arith}
use Rattle.implib_tool_driver.proofs.Running.{passes_written}
use Rattle.implib_tool_driver.proofs.output.write_unless_failed.Goals as goal

pub returns : goal.returns
returns g c = grind (arith, passes_written, c.has_failed.ensures, c.if-has_failed.false, c.write_all.ensures.moved, c.write_all.ensures.sound, c.write_all.ensures.beginning, c.write_all.ensures.fault)
