-- The table ends at the first number that ends it.
use Rattle.std.proofs.Common.{arith, ◌*◌, ◌/◌, length}
use Rattle.implib_dll.specs.Imports.{is_null_thunk, thunk_count, thunk_size}
use Rattle.implib_dll.proofs.Ends.{first_end-here, first_end-later, first_end-none, first_end-start}
use Rattle.implib_dll.proofs.imports.thunk_count.Goals as goal

pub loop-number-init : goal.loop-number-init
unfolding thunk_count
loop-number-init c = first_end-start (λ number. is_null_thunk c.args.is_pe32_plus c.args.table.now (thunk_size c.args.is_pe32_plus * number)) (length c.args.table.now / thunk_size c.args.is_pe32_plus)

pub returns-then-ends_at-clause-count : goal.returns-then-ends_at-clause-count
returns-then-ends_at-clause-count c = grind (arith, first_end-here, c.thunk_room-number-end.ensures, c.loop-number-test.true, c.ends_at.ensures, c.if-ends_at.true, c.loop-number.invariant)

pub loop-number-preserved : goal.loop-number-preserved
loop-number-preserved c = grind (arith, first_end-later, c.thunk_room-number-end.ensures, c.loop-number-test.true, c.ends_at.ensures, c.if-ends_at.false, c.loop-number.invariant)

pub returns-clause-count : goal.returns-clause-count
returns-clause-count c = grind (arith, first_end-none, c.thunk_room-number-end.ensures, c.loop-number-test.false, c.loop-number.invariant)
