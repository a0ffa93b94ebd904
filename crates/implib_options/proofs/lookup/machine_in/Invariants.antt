use Rattle.std.proofs.Common.{◌≡◌, length, map}
use Rattle.implib_options.specs.Table.{machine_in}
use Rattle.implib_options.proofs.lookup.machine_in.Given as goal

abbrev pub invariant-loop-rows : goal.invariant-loop-rows
invariant-loop-rows l =
    machine_in (map (λ row. (row.0.now, row.1.now)) l.rows) l.name ≡ machine_in (map (λ row. (row.0.now, row.1.now)) l.initial.rows) l.name

abbrev pub decreases-loop-rows : goal.decreases-loop-rows
decreases-loop-rows l = length l.rows
