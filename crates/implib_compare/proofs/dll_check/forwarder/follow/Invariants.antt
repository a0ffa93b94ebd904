use Rattle.std.proofs.Common.{◌≡◌}
use Rattle.implib_compare.specs.DllCheck.Forwarding.{end_by, known_by, most_forwarders}
use Rattle.implib_compare.specs.DllCheck.ForwardingViews.{beside_view}
use Rattle.implib_compare.proofs.dll_check.forwarder.follow.Given as goal

-- the last forwarder leads to the end of the first
abbrev pub invariant-loop-left : goal.invariant-loop-left
invariant-loop-left l =
    let known = known_by (beside_view l.beside) in
    let machine = l.beside.exports.now.machine in
    end_by l.left known machine l.is_data l.last ≡ end_by most_forwarders known machine l.is_data l.text

abbrev pub decreases-loop-left : goal.decreases-loop-left
decreases-loop-left l = l.left
