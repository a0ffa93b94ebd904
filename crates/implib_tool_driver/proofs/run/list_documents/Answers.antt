use Rattle.std.proofs.Common.{map}
use Rattle.implib.specs.Library.{member_view}
use Rattle.implib_tool_driver.specs.Listing.{listing_of}
use Rattle.implib_tool_driver.proofs.Running.{passes_as, passes_more}
use Rattle.implib_tool_driver.proofs.Shown.{mapped_more}
use Rattle.implib_tool_driver.proofs.run.list_documents.Goals as goal

pub loop-members-preserved : goal.loop-members-preserved
loop-members-preserved g c =
    passes_as _ _ _ _ (mapped_more listing_of (λ list. map member_view list.items) c.args.lists.now c.loop-members.members-index c.members-item.result c.loop-members-test.true c.members-item.is)
    (passes_more _ _ _ _ _ c.loop-members.invariant (rw c.as_slice.ensures.value at c.list_members.ensures))
