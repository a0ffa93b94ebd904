use Rattle.std.proofs.Common.{◌≡◌, ◌-◌, ◌<◌, ℕ, bytes_eq, false, get_or}
use Rattle.implib.proofs.Formats.Defaults.{no_text}
use Rattle.implib_archive.proofs.entries.are_distinct.Given as goal

-- so far no symbol is that of the entry before
abbrev pub invariant-loop-i : goal.invariant-loop-i
invariant-loop-i l = (k : ℕ) → k < l.i → 0 < k → bytes_eq (get_or l.sorted (k - 1) (no_text, 0)).0.now (get_or l.sorted k (no_text, 0)).0.now ≡ false
