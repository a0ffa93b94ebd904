use Rattle.std.proofs.Common.{◌≡◌, ◌<◌, ◌≤◌, ◌-◌, ℕ, length, get_or, false}
use Rattle.implib.specs.Text.Token.{is_delimiter}
use Rattle.implib.proofs.def.lexer.word_end.Given as goal

abbrev pub invariant-loop-end : goal.invariant-loop-end
invariant-loop-end l = record {
  from_on : l.from ≤ l.end;
  within : l.end ≤ length l.bytes;
  none_before : (k : ℕ) → l.from ≤ k → k < l.end → is_delimiter (get_or l.bytes k 0) ≡ false;
}

abbrev pub decreases-loop-end : goal.decreases-loop-end
decreases-loop-end l = length l.bytes - l.end
