use Rattle.std.proofs.Common.{◌≡◌, ℕ, List, map, take}
use Rattle.std.specs.HashMap.{get_by_text}
use Rattle.implib.specs.Definition.{export_view}
use Rattle.implib_check_driver.specs.Positions.{position_from}
use Rattle.implib_check_driver.proofs.positions.positions_by_symbol.Given as goal

abbrev pub invariant-loop-i : goal.invariant-loop-i
invariant-loop-i l = (symbol : List ℕ) → get_by_text l.by_symbol symbol ≡ position_from 0 (map export_view (take l.i l.exports)) l.positions symbol
