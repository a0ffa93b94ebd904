use Rattle.implib_tool_driver.proofs.Running.{passes_more}
use Rattle.implib_tool_driver.proofs.listing.list_symbol.Goals as goal

pub returns : goal.returns
returns g c = passes_more _ _ _ _ _ c.put.ensures (passes_more _ _ _ _ _ c.list_name.ensures c.put-2.ensures)
