use Rattle.std.proofs.Common.{◌≡◌, ◌++◌, drop}
use Rattle.implib_rules.specs.Places.{export_positions}
use Rattle.implib_check_driver.proofs.positions.export_positions.Given as goal

-- those so far, and those of the places that are left
abbrev pub invariant-loop-place : goal.invariant-loop-place
invariant-loop-place l = l.positions.items ++ export_positions (drop l.place-index l.places) ≡ export_positions l.places
