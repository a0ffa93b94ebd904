use Rattle.std.proofs.Common.{◌≡◌, ◌++◌, map, take}
use Rattle.implib.specs.Definition.{export_view}
use Rattle.implib_dll.specs.Views.{exports_view, name_view}
use Rattle.implib_libraries.specs.FromDll.Definition.{named_from}
use Rattle.implib_libraries.proofs.from_dll.exports.push_names.Given as goal

abbrev pub invariant-loop-position : goal.invariant-loop-position
invariant-loop-position l =
    map export_view l.list.items
    ≡ map export_view l.fn.list.items ++ named_from (exports_view l.exports).targets (map name_view (take l.position l.exports.names.items)) 0
