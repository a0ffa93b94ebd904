use Rattle.std.proofs.Common.{◌≡◌, take, map}
use Rattle.implib_read.specs.ArchiveViews.{member_view}
use Rattle.implib_read.specs.Classes.{files_of}
use Rattle.implib_read.specs.FileViews.{file_view}
use Rattle.implib_read.proofs.library.files_of.Given as goal

abbrev pub invariant-loop-member : goal.invariant-loop-member
invariant-loop-member l = map file_view l.files.items ≡ files_of (map member_view (take l.member-index l.members))
