use Rattle.std.proofs.Common.{◌≡◌, ◌++◌, drop, map, take}
use Rattle.implib.specs.Definition.{export_view}
use Rattle.implib_compare.specs.DllCheck.ForwardingViews.{beside_view}
use Rattle.implib_compare.specs.DllCheck.Kinds.{kinds_followed}
use Rattle.implib_compare.proofs.dll_check.kind.mark_followed.Given as goal

-- the exports passed, and those left with their kinds, are all with them
abbrev pub invariant-loop-export : goal.invariant-loop-export
invariant-loop-export l =
    map export_view (take l.export-index l.export-items)
    ++ kinds_followed (beside_view l.fn.beside) (map export_view (drop l.export-index l.export-items))
    ≡ kinds_followed (beside_view l.fn.beside) (map export_view l.fn.list.items)
