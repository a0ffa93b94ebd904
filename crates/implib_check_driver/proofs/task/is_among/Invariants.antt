use Rattle.std.proofs.Common.{◌≡◌, drop}
use Rattle.implib_check_driver.specs.Tasks.{is_among}
use Rattle.implib_check_driver.proofs.task.is_among.Given as goal

-- it is one of those that are left where it is one of all
abbrev pub invariant-loop-one : goal.invariant-loop-one
invariant-loop-one l = is_among (drop l.one-index l.meanings) l.meaning ≡ is_among l.meanings l.meaning
