use Rattle.std.proofs.Common.{◌≡◌, drop}
use Rattle.std.specs.List.{list_any}
use Rattle.implib_compare.specs.DllCheck.Imports.{is_lost}
use Rattle.implib_check_driver.proofs.against.loses.Given as goal

-- it is so of one that is left where it is so of one of all
abbrev pub invariant-loop-one : goal.invariant-loop-one
invariant-loop-one l = list_any is_lost (drop l.one-index l.found) ≡ list_any is_lost l.found
