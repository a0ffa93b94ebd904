use Rattle.std.proofs.Common.{◌≡◌, map, take}
use Rattle.implib_dll.specs.Views.{exports_view, target_view}
use Rattle.implib_compare.specs.DllCheck.Missing.{missing_from}
use Rattle.implib_compare.specs.DllCheck.Verdict.{ask_view}
use Rattle.implib_compare.proofs.dll_check.lacking.missing.Given as goal

abbrev pub invariant-loop-index : goal.invariant-loop-index
invariant-loop-index l =
    l.found.items ≡ missing_from (exports_view l.exports) (map ask_view l.asks) (map target_view (take l.index l.exports.targets.items)) 0
