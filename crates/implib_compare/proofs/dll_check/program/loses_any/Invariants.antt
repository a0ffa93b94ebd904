use Rattle.std.proofs.Common.{◌≡◌, drop, map}
use Rattle.std.specs.List.{list_any}
use Rattle.implib_dll.specs.Views.{ask_view, exports_view}
use Rattle.implib_compare.specs.DllCheck.Imports.{is_lost}
use Rattle.implib_compare.specs.DllCheck.Programs.{judged_ask}
use Rattle.implib_compare.proofs.dll_check.program.loses_any.Given as goal

-- one of those that are left is lost where one of all is
abbrev pub invariant-loop-ask : goal.invariant-loop-ask
invariant-loop-ask l =
    list_any (λ ask. is_lost (judged_ask (exports_view l.exports) ask)) (map ask_view (drop l.ask-index l.asks)) ≡ list_any (λ ask. is_lost (judged_ask (exports_view l.exports) ask)) (map ask_view l.asks)
