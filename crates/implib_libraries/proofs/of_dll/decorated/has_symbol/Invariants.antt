use Rattle.std.proofs.Common.{◌≡◌, drop, map}
use Rattle.implib_libraries.specs.OfDll.Decorated.{has_symbol}
use Rattle.implib_libraries.specs.OfDll.Decorations.{decoration_view}
use Rattle.implib_libraries.proofs.of_dll.decorated.has_symbol.Given as goal

abbrev pub invariant-loop-decoration : goal.invariant-loop-decoration
invariant-loop-decoration l =
    has_symbol (map decoration_view (drop l.decoration-index l.decorations)) l.name ≡ has_symbol (map decoration_view l.decorations) l.name
