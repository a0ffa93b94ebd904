use Rattle.std.proofs.Common.{◌≡◌, ◌++◌, map, take}
use Rattle.implib_libraries.specs.OfDll.Decorations.{decoration_view, functions, named}
use Rattle.implib_libraries.proofs.of_dll.decorations.push_functions.Given as goal

abbrev pub invariant-loop-symbol : goal.invariant-loop-symbol
invariant-loop-symbol l =
    map decoration_view l.list.items
    ≡ map decoration_view l.fn.list.items ++ named l.name (functions (map (λ symbol. symbol.now) (take l.symbol-index l.symbols)))
