use Rattle.std.proofs.Common.{sym, ◌+◌, ◌∙◌}
use Rattle.implib.specs.Library.{member_view}
use Rattle.implib_tool_driver.specs.Listing.{member_listing}
use Rattle.implib_tool_driver.proofs.Running.{passes_failed, passes_more}
use Rattle.implib_tool_driver.proofs.Shown.{mapped_more, mapped_whole}
use Rattle.implib_tool_driver.proofs.listing.list_members.Goals as goal

pub returns-then-has_failed : goal.returns-then-has_failed
returns-then-has_failed g c =
    let more = mapped_more member_listing member_view c.args.members.now c.loop-member.member-index c.member-item.result c.loop-member-test.true c.member-item.is in
    rw (← mapped_whole member_listing member_view c.args.members.now (c.loop-member.member-index + 1), ← more)
    (passes_failed _ _ _ _ (passes_more _ _ _ _ _ c.loop-member.invariant c.list_member.ensures) (sym c.has_failed.ensures ∙ c.if-has_failed.true))

pub loop-member-preserved : goal.loop-member-preserved
loop-member-preserved g c =
    rw (← mapped_more member_listing member_view c.args.members.now c.loop-member.member-index c.member-item.result c.loop-member-test.true c.member-item.is)
    (passes_more _ _ _ _ _ c.loop-member.invariant c.list_member.ensures)
