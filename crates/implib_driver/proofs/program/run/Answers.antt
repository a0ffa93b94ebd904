use Rattle.std.specs.String.{string_bytes}
use Rattle.implib_driver.proofs.Calls.{runs_without}
use Rattle.implib_driver.proofs.program.run.Goals as goal

pub returns-in-empty : goal.returns-in-empty
returns-in-empty g c = runs_without string_bytes c.args.arguments.now _ _ _ _ _ _ c.in-empty.len_below c.perform_call.ensures
