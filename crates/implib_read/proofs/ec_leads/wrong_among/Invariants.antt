use Rattle.std.proofs.Common.{◌≡◌, take, map}
use Rattle.implib_read.specs.IndexViews.{index_entry_view}
use Rattle.implib_read.specs.Leads.{ec_declarer, wrong_entries}
use Rattle.implib_read.specs.LeadViews.{offset_of}
use Rattle.implib_read.proofs.ec_leads.wrong_among.Given as goal

abbrev pub invariant-loop-entry : goal.invariant-loop-entry
invariant-loop-entry l = map index_entry_view l.wrong.items ≡ wrong_entries (ec_declarer (offset_of l.tables) (offset_of l.others)) (map index_entry_view (take l.entry-index l.entries))
