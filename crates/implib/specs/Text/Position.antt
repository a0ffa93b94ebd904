-- Positions in a text: lines and columns.
use Rattle.std.specs.Prelude.{ℕ, ◌+◌, List, if◌then◌else◌, take}
use Rattle.std.specs.List.{fold}
use Rattle.implib.specs.declared.def.position.Position.{Position}
use Rattle.implib.specs.Text.Token.{is_line_feed}

-- Line and column after one more byte: after a line feed the next line begins, and after any other
-- byte, a carriage return too, the line goes on.
abbrev pub after_byte : ℕ × ℕ → ℕ → ℕ × ℕ
after_byte (line, column) byte = if is_line_feed byte then (line + 1, 1) else (line, column + 1)

-- Line and column after a text. Both are 1 after the empty text.
abbrev pub line_and_column : List ℕ → ℕ × ℕ
line_and_column text = fold after_byte (1, 1) text

-- The position of an offset in a text: the line and the column after what comes before it. For
-- example, in `NAME a` and a line feed and `foo` the offset 8 is at 2:2 (Worked/Positions).
abbrev pub position_at : List ℕ → ℕ → Position
position_at text offset = record {
  offset = offset;
  line = (line_and_column (take offset text)).0;
  column = (line_and_column (take offset text)).1;
}
