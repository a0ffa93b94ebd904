use Rattle.std.proofs.Common.{◌≡◌, ◌++◌, drop, map}
use Rattle.implib.specs.Definition.{export_view}
use Rattle.implib_compare.specs.DllCheck.ForwardingViews.{beside_view}
use Rattle.implib_compare.specs.DllCheck.Kinds.{unknown_dlls}
use Rattle.implib_compare.proofs.dll_check.kind.unknown_dlls.Given as goal

-- the names so far, and those of the exports that are left, are those of all
abbrev pub invariant-loop-export : goal.invariant-loop-export
invariant-loop-export l =
    let b = beside_view l.beside in
    map (λ name. name.items) l.names.items ++ unknown_dlls b (map export_view (drop l.export-index l.list)) ≡ unknown_dlls b (map export_view l.list)
