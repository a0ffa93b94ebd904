use Rattle.std.proofs.Common.{◌≡◌, ◌+◌, ◌-◌, ◌*◌, ◌≤◌, ◌^◌, fold, take}
use Rattle.implib_read.proofs.names.value_of.Given as goal

abbrev pub invariant-loop-c : goal.invariant-loop-c
invariant-loop-c l = (l.value ≡ fold (λ n c. 10 * n + (c - 48)) 0 (take l.c-index l.digits)) × (l.value + 23 ≤ 23 * 10 ^ l.c-index)
