use Rattle.std.proofs.Common.{◌≡◌, map, take}
use Rattle.implib_read.specs.ArchiveViews.{member_view}
use Rattle.implib_read.specs.Leads.{members_for}
use Rattle.implib_read.proofs.ec_leads.members_for.Given as goal

abbrev pub invariant-loop-member : goal.invariant-loop-member
invariant-loop-member l = map member_view l.found.items ≡ members_for l.wanted (map member_view (take l.member-index l.members))
