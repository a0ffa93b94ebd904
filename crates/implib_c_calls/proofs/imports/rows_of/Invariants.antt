use Rattle.std.proofs.Common.{◌≡◌, map, take}
use Rattle.implib_c_calls.specs.ImportsAnswer.{row_of_found, row_view}
use Rattle.implib_c_calls.proofs.imports.rows_of.Given as goal

-- the rows of the members up to here
abbrev pub invariant-loop-member : goal.invariant-loop-member
invariant-loop-member l = map row_view l.rows.items ≡ map row_of_found (take l.member-index l.members)
