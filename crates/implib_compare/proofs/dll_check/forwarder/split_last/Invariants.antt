use Rattle.std.proofs.Common.{◌≡◌, ◌≤◌, None, drop, length}
use Rattle.implib_compare.specs.DllCheck.Forwarding.{split_last}
use Rattle.implib_compare.proofs.dll_check.forwarder.split_last.Given as goal

-- no full stop is in what is behind
abbrev pub invariant-loop-end : goal.invariant-loop-end
invariant-loop-end l = (split_last (drop l.end l.text) ≡ None) × (l.end ≤ length l.text)

abbrev pub decreases-loop-end : goal.decreases-loop-end
decreases-loop-end l = l.end
