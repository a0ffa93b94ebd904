use Rattle.std.proofs.Common.{◌≡◌, ◌++◌, map, take}
use Rattle.std.specs.String.{string_bytes}
use Rattle.implib_options.specs.Table.{help_in}
use Rattle.implib_options.proofs.help.push_rows.Given as goal

abbrev pub invariant-loop-row : goal.invariant-loop-row
invariant-loop-row l =
    string_bytes l.text ≡ string_bytes l.initial.text ++ help_in (map (λ row. (row.0, row.5.now)) (take l.row-index l.rows)) l.of
