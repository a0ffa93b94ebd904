use Rattle.std.proofs.Common.{arith}
use Rattle.implib_arm64ec.proofs.Read.{rest_at, rest_past, stack_empty, stack_goes_on, stack_left, stack_stops}
use Rattle.implib_arm64ec.proofs.reading.read_qualified_name.Goals as goal

pub returns-in-None : goal.returns-in-None
returns-in-None c = grind (arith, stack_empty, c.in-None.ensures, c.loop-place.invariant)

pub returns-in-None-next : goal.returns-in-None-next
returns-in-None-next c = grind (arith, stack_stops, rest_at, c.next.ensures, c.in-None-next.is, c.in-Some.ensures, c.loop-place-test.true, c.loop-place.invariant)

pub loop-place-preserved : goal.loop-place-preserved
loop-place-preserved c = grind (arith, stack_goes_on, rest_at, c.next.ensures, c.in-Some-next.is, c.in_ok-push_reversed-in-Some-next.ensures, c.in_ok-push_reversed-in-Some-next-2.ensures, c.in-Some.ensures, c.loop-place-test.true, c.loop-place.invariant)

pub returns-then-is_empty : goal.returns-then-is_empty
returns-then-is_empty c = grind (arith, stack_empty, c.loop-place.invariant)

pub returns : goal.returns
returns c = grind (arith, stack_left, rest_past, c.is_empty.ensures, c.if-is_empty.false, c.loop-place-test.false, c.loop-place.invariant)
