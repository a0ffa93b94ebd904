use Rattle.implib_tool_driver.proofs.Running.{passes_more}
use Rattle.implib_tool_driver.proofs.listing.list_head.Goals as goal

pub returns : goal.returns
returns g c =
    let number = rw (c.as_bytes.ensures.value, c.format.ensures.text) at c.put-3.ensures in
    passes_more _ _ _ _ _ c.put.ensures (passes_more _ _ _ _ _ c.list_name.ensures (passes_more _ _ _ _ _ c.put-2.ensures (passes_more _ _ _ _ _ number c.put-4.ensures)))
