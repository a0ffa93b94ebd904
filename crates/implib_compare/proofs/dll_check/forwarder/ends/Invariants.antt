use Rattle.std.proofs.Common.{◌≡◌, map, take}
use Rattle.std.specs.Option.{option_map}
use Rattle.implib_compare.specs.DllCheck.Forwarding.{ends}
use Rattle.implib_compare.specs.DllCheck.ForwardingViews.{beside_view, end_view}
use Rattle.implib_read.specs.ClassViews.{member_read_view}
use Rattle.implib_compare.proofs.dll_check.forwarder.ends.Given as goal

abbrev pub invariant-loop-member : goal.invariant-loop-member
invariant-loop-member l =
    map (option_map end_view) l.found.items ≡ ends (beside_view l.beside) (map member_read_view (take l.member-index l.members))
