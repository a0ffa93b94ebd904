use Rattle.std.proofs.Common.{arith}
use Rattle.implib_tool_driver.specs.Listing.{escaped_byte}
use Rattle.implib_tool_driver.proofs.Running.{passes_as, passes_more, passes_nothing}
use Rattle.implib_tool_driver.proofs.Shown.{flat_more, plain_name}
use Rattle.implib_tool_driver.proofs.listing.list_name.Goals as goal

pub returns-then-are_plain : goal.returns-then-are_plain
returns-then-are_plain g c = grind (arith, passes_as, plain_name, c.as_bytes-then-are_plain.ensures.value, c.put.ensures)

pub loop-byte-init : goal.loop-byte-init
loop-byte-init g c = passes_nothing _

pub loop-byte-preserved : goal.loop-byte-preserved
loop-byte-preserved g c = grind (arith, passes_as, flat_more escaped_byte c.as_bytes-byte-items.result.now c.loop-byte.byte-index c.loop-byte-test.true, passes_more, c.loop-byte-test.true, c.loop-byte.invariant, c.list_name_byte.ensures)
