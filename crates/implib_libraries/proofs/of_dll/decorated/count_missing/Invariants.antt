use Rattle.std.proofs.Common.{◌≡◌, map, take}
use Rattle.std.specs.Prelude.{count_by}
use Rattle.implib.specs.Definition.{export_view}
use Rattle.implib_libraries.specs.OfDll.Decorated.{is_missing}
use Rattle.implib_libraries.specs.OfDll.Decorations.{decoration_view}
use Rattle.implib_libraries.proofs.of_dll.decorated.count_missing.Given as goal

abbrev pub invariant-loop-export : goal.invariant-loop-export
invariant-loop-export l = l.count ≡ count_by (is_missing (map decoration_view l.decorations)) (map export_view (take l.export-index l.exports))
