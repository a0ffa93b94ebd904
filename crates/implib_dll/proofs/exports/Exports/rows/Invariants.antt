use Rattle.std.proofs.Common.{◌≡◌, [], map, take}
use Rattle.implib_dll.specs.Rows.{rows_from}
use Rattle.implib_dll.specs.Views.{row_view, target_view}
use Rattle.implib_dll.proofs.exports.Exports.rows.Given as goal

abbrev pub invariant-loop-index : goal.invariant-loop-index
invariant-loop-index l =
    map row_view l.rows.items ≡ rows_from l.self.base [] (map target_view (take l.index l.self.targets.items)) 0
