use Rattle.std.proofs.Common.{◌∙◌, ap, sym}
use Rattle.implib_compare.specs.DllCheck.ForwardingViews.{step_view}
use Rattle.implib_compare.proofs.DllCheck.Forwarders.{followed_all, followed_end, followed_on}
use Rattle.implib_compare.proofs.dll_check.forwarder.follow.Goals as goal

pub loop-left-preserved : goal.loop-left-preserved
loop-left-preserved c =
    followed_on c.loop-left.left _ _ _ c.loop-left.last.now c.in-On.next.now _ c.loop-left-test.true
    (sym c.in_ok-next.ensures ∙ ap step_view c.in-On.is) c.loop-left.invariant

pub returns-in-Ends : goal.returns-in-Ends
returns-in-Ends c =
    followed_end c.loop-left.left _ _ _ c.loop-left.last.now _ _ c.loop-left-test.true
    (sym c.in_ok-next.ensures ∙ ap step_view c.in-Ends.is) c.loop-left.invariant

pub returns : goal.returns
returns c = followed_all c.loop-left.left _ _ _ c.loop-left.last.now _ c.loop-left-test.false c.loop-left.invariant
