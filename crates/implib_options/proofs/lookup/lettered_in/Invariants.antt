use Rattle.std.proofs.Common.{◌≡◌, length, map}
use Rattle.implib_options.specs.Table.{lettered_in}
use Rattle.implib_options.proofs.lookup.lettered_in.Given as goal

abbrev pub invariant-loop-rows : goal.invariant-loop-rows
invariant-loop-rows l =
    lettered_in (map (λ row. (row.0, row.1.now, row.2, (row.3, row.4))) l.rows) l.of l.letter
    ≡ lettered_in (map (λ row. (row.0, row.1.now, row.2, (row.3, row.4))) l.initial.rows) l.of l.letter

abbrev pub decreases-loop-rows : goal.decreases-loop-rows
decreases-loop-rows l = length l.rows
