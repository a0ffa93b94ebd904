use Rattle.std.proofs.Common.{◌≡◌, ◌+◌, ◌≤◌, length}
use Rattle.implib_rules.specs.Forms.{open_quote, open_quote_from}
use Rattle.implib_rules.proofs.form.open_quote.Given as goal

-- the first open quote of what is left is that of all
abbrev pub invariant-loop-left : goal.invariant-loop-left
invariant-loop-left l = record {
  found : open_quote_from l.reading l.offset l.left ≡ open_quote l.text;
  offset : l.offset + length l.left ≤ length l.text;
}

abbrev pub decreases-loop-left : goal.decreases-loop-left
decreases-loop-left l = length l.left
