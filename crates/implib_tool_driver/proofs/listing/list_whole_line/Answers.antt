use Rattle.implib_tool_driver.proofs.Running.{passes_as, passes_more}
use Rattle.implib_tool_driver.proofs.listing.list_whole_line.Goals as goal

pub returns : goal.returns
returns g c = passes_as _ _ _ _ c.line_of.ensures (passes_more _ _ _ _ _ c.put.ensures (passes_more _ _ _ _ _ c.put-2.ensures c.put-3.ensures))
