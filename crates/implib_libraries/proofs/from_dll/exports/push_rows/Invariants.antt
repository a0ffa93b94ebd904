use Rattle.std.proofs.Common.{◌≡◌, ◌++◌, map, take}
use Rattle.std.specs.List.{flat_map}
use Rattle.implib.specs.Definition.{export_view}
use Rattle.implib_dll.specs.Views.{row_view}
use Rattle.implib_libraries.specs.FromDll.Definition.{numbered_of}
use Rattle.implib_libraries.proofs.from_dll.exports.push_rows.Given as goal

abbrev pub invariant-loop-row : goal.invariant-loop-row
invariant-loop-row l =
    map export_view l.list.items ≡ map export_view l.fn.list.items ++ flat_map numbered_of (map row_view (take l.row-index l.rows))
