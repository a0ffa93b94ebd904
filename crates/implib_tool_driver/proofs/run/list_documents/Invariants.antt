use Rattle.std.proofs.Common.{take, flat_map}
use Rattle.implib_tool_driver.specs.Listing.{listing_of}
use Rattle.implib_tool_driver.specs.Views.{Passes, buffered, member_views}
use Rattle.implib_tool_driver.proofs.run.list_documents.Given as goal

-- the documents are listed up to here
abbrev pub invariant-loop-members : goal.invariant-loop-members
invariant-loop-members g l = Passes g.W.Sink.keeps
    (buffered (g.W.Sink.contents l.fn.writer) (g.W.Sink.failed l.fn.writer) l.fn.buffer)
    (buffered (g.W.Sink.contents l.writer) (g.W.Sink.failed l.writer) l.buffer)
    (flat_map listing_of (member_views (take l.members-index l.lists)))
