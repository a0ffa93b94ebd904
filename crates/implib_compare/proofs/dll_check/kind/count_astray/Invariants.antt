use Rattle.std.proofs.Common.{◌≡◌, map, take}
use Rattle.std.specs.Prelude.{count_by}
use Rattle.implib.specs.Definition.{export_view}
use Rattle.implib_compare.specs.DllCheck.ForwardingViews.{beside_view}
use Rattle.implib_compare.specs.DllCheck.Kinds.{is_astray}
use Rattle.implib_compare.proofs.dll_check.kind.count_astray.Given as goal

abbrev pub invariant-loop-export : goal.invariant-loop-export
invariant-loop-export l = l.count ≡ count_by (is_astray (beside_view l.beside)) (map export_view (take l.export-index l.list))
