use Rattle.std.proofs.Common.{◌≡◌, take, map}
use Rattle.implib_read.specs.ArchiveViews.{member_view}
use Rattle.implib_read.specs.Classes.{member_read}
use Rattle.implib_read.specs.ClassViews.{member_read_view}
use Rattle.implib_read.specs.FollowingViews.{places_of}
use Rattle.implib_read.proofs.library.classes_of.Given as goal

abbrev pub invariant-loop-i : goal.invariant-loop-i
invariant-loop-i l = map member_read_view l.read.items ≡ map (member_read (places_of l.definers)) (map member_view (take l.i l.members))
