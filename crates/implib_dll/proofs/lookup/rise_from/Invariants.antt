use Rattle.std.proofs.Common.{◌≡◌, drop, map}
use Rattle.implib_dll.specs.Lookup.{rise_from}
use Rattle.implib_dll.specs.Views.{name_view}
use Rattle.implib_dll.proofs.lookup.rise_from.Given as goal

abbrev pub invariant-loop-name : goal.invariant-loop-name
invariant-loop-name l = rise_from l.last (map name_view (drop l.name-index l.names)) ≡ rise_from l.fn.text (map name_view l.names)
