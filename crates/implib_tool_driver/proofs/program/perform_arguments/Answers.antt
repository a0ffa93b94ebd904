use Rattle.std.proofs.Common.{arith}
use Rattle.std.specs.Vec.Iter.{into_iter_items}
use Rattle.implib_tool_driver.specs.Arguments.{arguments_of}
use Rattle.implib_tool_driver.proofs.Running.{arguments_answered, arguments_refused}
use Rattle.implib_tool_driver.proofs.program.perform_arguments.Goals as goal

pub returns-in_default : goal.returns-in_default
returns-in_default g c = rw c.fault.ensures (arguments_refused (arguments_of (into_iter_items c.args.command_line)) _ c.requires.reader c.requires.writer)

pub returns : goal.returns
returns g c = grind (arith, arguments_answered, c.as_slice.ensures.value, c.in-Ok.ensures, c.command.ensures.arguments, c.command.ensures.untouched, c.command.ensures.run)
