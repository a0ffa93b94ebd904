use Rattle.std.proofs.Common.{◌≡◌, map, take}
use Rattle.implib_driver.specs.Identity.{lines_of, names_in}
use Rattle.implib_read.specs.ArchiveViews.{member_view}
use Rattle.implib_driver.proofs.identity.names_in.Given as goal

-- the lines so far
abbrev pub invariant-loop-member : goal.invariant-loop-member
invariant-loop-member l = l.lines.items ≡ lines_of (names_in (map member_view (take l.member-index l.members)))
