use Rattle.std.proofs.Common.{◌≡◌, ◌++◌, drop, map}
use Rattle.implib_options.specs.Given.{given_view}
use Rattle.implib_check_driver.specs.Tasks.{commands}
use Rattle.implib_check_driver.proofs.task.commands.Given as goal

-- the commands so far, and those of the options that are left, are all
abbrev pub invariant-loop-option : goal.invariant-loop-option
invariant-loop-option l =
    l.found.items ++ commands (map given_view (drop l.option-index l.given)) ≡ commands (map given_view l.given)
