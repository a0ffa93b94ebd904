use Rattle.std.proofs.Common.{map, ◌≡◌, ◌++◌, take, drop}
use Rattle.implib.specs.Definition.{export_view}
use Rattle.implib_dll.specs.Views.{exports_view}
use Rattle.implib_rules.specs.Linked.{naming_view}
use Rattle.implib_libraries.specs.OfDll.Decorated.{with_symbols}
use Rattle.implib_libraries.specs.OfDll.Decorations.{decoration_view}
use Rattle.implib_libraries.proofs.of_dll.decorated.decorate.Given as goal

-- the exports passed, and then those left with their symbols, are all with them
abbrev pub invariant-loop-export : goal.invariant-loop-export
invariant-loop-export l =
    map export_view (take l.export-index l.export-items)
    ++ with_symbols (naming_view l.fn.naming) (map decoration_view l.fn.decorations) (exports_view l.fn.exports).names
    (map export_view (drop l.export-index l.export-items))
    ≡ with_symbols (naming_view l.fn.naming) (map decoration_view l.fn.decorations) (exports_view l.fn.exports).names
    (map export_view l.fn.list.items)
