use Rattle.std.proofs.Common.{◌≡◌, map, take}
use Rattle.std.specs.List.{flat_map}
use Rattle.implib.specs.Definition.{export_view}
use Rattle.implib_libraries.specs.OfDll.Decorations.{decoration_view, of_export}
use Rattle.implib_libraries.proofs.of_dll.decorations.of_exports.Given as goal

abbrev pub invariant-loop-export : goal.invariant-loop-export
invariant-loop-export l = map decoration_view l.list.items ≡ flat_map of_export (map export_view (take l.export-index l.exports))
