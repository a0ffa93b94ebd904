use Rattle.std.proofs.Common.{◌≡◌, map, take}
use Rattle.implib_dll.specs.Rows.{rows_from}
use Rattle.implib_dll.specs.Views.{name_view, row_view, target_view}
use Rattle.implib_dll.proofs.rows.add_names.Given as goal

abbrev pub invariant-loop-name : goal.invariant-loop-name
invariant-loop-name l =
    map row_view l.rows.items ≡ rows_from l.base (map name_view (take l.name-index l.names)) (map target_view l.targets) 0
