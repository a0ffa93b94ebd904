use Rattle.std.proofs.Common.{◌≡◌, drop, map}
use Rattle.implib_libraries.specs.OfDll.Decorated.{symbol_for}
use Rattle.implib_libraries.specs.OfDll.Decorations.{decoration_view}
use Rattle.implib_libraries.proofs.of_dll.decorated.symbol_for.Given as goal

abbrev pub invariant-loop-decoration : goal.invariant-loop-decoration
invariant-loop-decoration l =
    symbol_for (map decoration_view (drop l.decoration-index l.decorations)) l.name ≡ symbol_for (map decoration_view l.decorations) l.name
