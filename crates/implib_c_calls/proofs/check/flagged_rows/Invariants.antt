use Rattle.std.proofs.Common.{◌≡◌, map, take}
use Rattle.implib_c_calls.specs.Check.{flagged}
use Rattle.implib_c_calls.specs.ImportsAnswer.{row_of_found, row_view}
use Rattle.implib_c_calls.proofs.check.flagged_rows.Given as goal

-- the rows of the members up to here whose flag is set
abbrev pub invariant-loop-i : goal.invariant-loop-i
invariant-loop-i l = map row_view l.rows.items ≡ flagged l.flags (map row_of_found (take l.i l.members))
