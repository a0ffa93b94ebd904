use Rattle.std.proofs.Common.{◌≡◌, ◌+◌, ◌≤◌, take}
use Rattle.std.specs.List.{fold}
use Rattle.implib.specs.Text.Position.{after_byte}
use Rattle.implib.proofs.def.position.Position.advanced.Given as goal

-- line and column after the bytes so far
abbrev pub invariant-loop-byte : goal.invariant-loop-byte
invariant-loop-byte l = record {
  place : (l.line, l.column) ≡ fold after_byte (l.fn.self.line, l.fn.self.column) (take l.byte-index l.rest);
  lines : l.line ≤ l.fn.self.line + l.byte-index;
  columns : l.column ≤ l.fn.self.column + l.byte-index;
}
