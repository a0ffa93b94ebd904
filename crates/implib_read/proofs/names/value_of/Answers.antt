use Rattle.std.proofs.Common.{rules, arith, length}
use Rattle.implib_read.proofs.FieldNames.{small_power}
use Rattle.implib_read.proofs.names.value_of.Goals as goal

pub overflow_mul-value : goal.overflow_mul-value
overflow_mul-value c = grind (arith, small_power c.loop-c.value c.loop-c.c-index (length c.args.digits.now) c.loop-c.invariant.1 (search rules) c.requires, c.loop-c.invariant.1, c.requires)

pub overflow_add-value : goal.overflow_add-value
overflow_add-value c = grind (arith, small_power c.loop-c.value c.loop-c.c-index (length c.args.digits.now) c.loop-c.invariant.1 (search rules) c.requires, c.loop-c.invariant.1, c.requires)
