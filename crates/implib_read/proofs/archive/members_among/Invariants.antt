use Rattle.std.proofs.Common.{◌≡◌, take, map}
use Rattle.std.specs.List.{filter_map}
use Rattle.implib_read.specs.Archives.{member_of}
use Rattle.implib_read.specs.ArchiveViews.{member_view, part_view}
use Rattle.implib_read.proofs.archive.members_among.Given as goal

abbrev pub invariant-loop-part : goal.invariant-loop-part
invariant-loop-part l = map member_view l.members.items ≡ filter_map (member_of l.names) (map part_view (take l.part-index l.parts))
