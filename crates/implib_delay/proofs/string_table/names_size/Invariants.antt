use Rattle.std.proofs.Common.{◌≡◌, map, min, sum_by, take}
use Rattle.implib.specs.Formats.Layout.{string_size}
use Rattle.implib.specs.Formats.Writer.{long_names}
use Rattle.implib.specs.Views.Table.{symbol_row}
use Rattle.implib_delay.proofs.string_table.names_size.Given as goal

-- the size of the names so far, as far as 64 bits can count
abbrev pub invariant-loop-index : goal.invariant-loop-index
invariant-loop-index l = l.size ≡ min 0xFFFF_FFFF_FFFF_FFFF (sum_by string_size (long_names (map symbol_row (take l.index l.symbols))))
