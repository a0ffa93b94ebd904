use Rattle.std.proofs.Common.{rules, arith}
use Rattle.implib_tool_driver.proofs.Running.{passes_as}
use Rattle.implib_tool_driver.proofs.Shown.{byte_more, line_shown}
use Rattle.implib_tool_driver.proofs.listing.list_line.Goals as goal

pub loop-index-preserved : goal.loop-index-preserved
loop-index-preserved g c = search (rules, byte_more, c.loop-index.invariant.size, c.hex_digit_of.ensures, c.hex_digit_of-in-loop-index.ensures, c.loop-index.invariant.shown)

pub returns : goal.returns
returns g c = grind (arith, line_shown, passes_as, c.loop-index.auto.index-end, c.loop-index.invariant.shown, c.requires.some, c.requires.whole, c.requires.first, c.loop-index.invariant.size, c.put.ensures)
