use Rattle.std.proofs.Common.{◌≡◌, ℕ, ◌<◌, ◌≤◌, get_or}
use Rattle.implib_tool_driver.proofs.documents.line_at.Given as goal

-- no line end up to here
abbrev pub invariant-loop-i : goal.invariant-loop-i
invariant-loop-i l = (k : ℕ) → l.start ≤ k → k < l.i → get_or l.text k 0 ≡ 10 → ⊥
