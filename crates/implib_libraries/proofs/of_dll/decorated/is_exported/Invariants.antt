use Rattle.std.proofs.Common.{◌≡◌, drop, map}
use Rattle.implib_dll.specs.Views.{name_view}
use Rattle.implib_libraries.specs.OfDll.Decorated.{is_exported}
use Rattle.implib_libraries.proofs.of_dll.decorated.is_exported.Given as goal

abbrev pub invariant-loop-name : goal.invariant-loop-name
invariant-loop-name l = is_exported (map name_view (drop l.name-index l.names)) l.word ≡ is_exported (map name_view l.names) l.word
