use Rattle.std.proofs.Common.{take, map}
use Rattle.implib.specs.Library.{member_view}
use Rattle.implib_tool_driver.specs.Listing.{listing_of}
use Rattle.implib_tool_driver.specs.Views.{Passes, buffered}
use Rattle.implib_tool_driver.proofs.listing.list_members.Given as goal

-- the members are listed up to here
abbrev pub invariant-loop-member : goal.invariant-loop-member
invariant-loop-member g l = Passes g.W.Sink.keeps
    (buffered (g.W.Sink.contents l.fn.writer) (g.W.Sink.failed l.fn.writer) l.fn.buffer)
    (buffered (g.W.Sink.contents l.writer) (g.W.Sink.failed l.writer) l.buffer)
    (listing_of (map member_view (take l.member-index l.members)))
