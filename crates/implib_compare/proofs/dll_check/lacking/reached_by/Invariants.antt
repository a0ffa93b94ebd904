use Rattle.std.proofs.Common.{◌≡◌, ℕ, ◌<◌, false, get_or, length, map, take}
use Rattle.implib_dll.specs.Views.{exports_view}
use Rattle.implib_compare.specs.DllCheck.Missing.{is_reached}
use Rattle.implib_compare.specs.DllCheck.Verdict.{ask_view}
use Rattle.implib_compare.proofs.dll_check.lacking.reached_by.Given as goal

abbrev pub invariant-loop-ask : goal.invariant-loop-ask
invariant-loop-ask l = record {
  size : length l.reached.items ≡ length l.exports.targets.items;
  marked : (k : ℕ) → k < length l.reached.items → get_or l.reached.items k false
      ≡ is_reached (exports_view l.exports) (map ask_view (take l.ask-index l.asks)) k;
}
