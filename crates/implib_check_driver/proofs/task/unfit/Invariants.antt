use Rattle.std.proofs.Common.{◌≡◌, drop, map}
use Rattle.implib_options.specs.Given.{given_view}
use Rattle.implib_check_driver.specs.Tasks.{unfit}
use Rattle.implib_check_driver.proofs.task.unfit.Given as goal

-- the first of those that are left is the first of all
abbrev pub invariant-loop-option : goal.invariant-loop-option
invariant-loop-option l = unfit l.meanings (map given_view (drop l.option-index l.given)) ≡ unfit l.meanings (map given_view l.given)
