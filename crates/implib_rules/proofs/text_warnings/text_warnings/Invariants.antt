use Rattle.std.proofs.Common.{◌≡◌, ◌+◌, ◌≤◌, ◌++◌, length, map}
use Rattle.implib_rules.specs.TextWarnings.{text_warnings, text_warnings_from}
use Rattle.implib_rules.specs.Warnings.{warning_view}
use Rattle.implib_rules.proofs.text_warnings.text_warnings.Given as goal

-- the warnings so far, and those of what is left
abbrev pub invariant-loop-text : goal.invariant-loop-text
invariant-loop-text l = record {
  said : map warning_view l.warnings.items ++ text_warnings_from l.reading l.position l.text ≡ text_warnings l.bytes;
  offset : l.position.offset + length l.text ≤ length l.bytes;
  line : l.position.line ≤ l.position.offset + 1;
  column : l.position.column ≤ l.position.offset + 1;
}

abbrev pub decreases-loop-text : goal.decreases-loop-text
decreases-loop-text l = length l.text
