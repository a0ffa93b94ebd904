use Rattle.std.proofs.Common.{◌≡◌, map, take}
use Rattle.implib_read.specs.ClassViews.{member_read_view}
use Rattle.implib_libraries.specs.OfDll.Decorations.{decoration_view, of_members}
use Rattle.implib_libraries.proofs.of_dll.decorations.of_members.Given as goal

abbrev pub invariant-loop-member : goal.invariant-loop-member
invariant-loop-member l = map decoration_view l.list.items ≡ of_members (map member_read_view (take l.member-index l.members))
