-- The table ends at the first number that ends it.
use Rattle.std.proofs.Common.{arith, ◌*◌, ◌/◌, length}
use Rattle.implib_dll.specs.Imports.{descriptor_count, is_null_descriptor}
use Rattle.implib_dll.proofs.Ends.{first_end-here, first_end-later, first_end-none, first_end-start}
use Rattle.implib_dll.proofs.imports.descriptor_count.Goals as goal

pub loop-number-init : goal.loop-number-init
unfolding descriptor_count
loop-number-init c = first_end-start (λ number. is_null_descriptor c.args.table.now (20 * number)) (length c.args.table.now / 20)

pub returns-then-is_null_descriptor-clause-count : goal.returns-then-is_null_descriptor-clause-count
returns-then-is_null_descriptor-clause-count c = grind (arith, first_end-here, c.loop-number-test.true, c.is_null_descriptor.ensures, c.if-is_null_descriptor.true, c.loop-number.invariant)

pub loop-number-preserved : goal.loop-number-preserved
loop-number-preserved c = grind (arith, first_end-later, c.loop-number-test.true, c.is_null_descriptor.ensures, c.if-is_null_descriptor.false, c.loop-number.invariant)

pub returns-clause-count : goal.returns-clause-count
returns-clause-count c = grind (arith, first_end-none, c.loop-number-test.false, c.loop-number.invariant)
