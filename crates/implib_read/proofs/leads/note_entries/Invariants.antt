use Rattle.std.proofs.Common.{◌≡◌, ℕ, List, take, map}
use Rattle.std.specs.List.{filter_map}
use Rattle.std.specs.Option.{option_or}
use Rattle.implib.specs.Formats.File.{declared_by_entry}
use Rattle.implib_read.specs.Leads.{offset_if_listed}
use Rattle.implib_read.specs.LeadViews.{offset_of}
use Rattle.implib_read.specs.ObjectViews.{entry_view}
use Rattle.implib_read.proofs.leads.note_entries.Given as goal

abbrev pub invariant-loop-entry : goal.invariant-loop-entry
invariant-loop-entry l = (other : List ℕ) → offset_of l.declarers other
    ≡ option_or (offset_of l.fn.declarers other) (offset_if_listed l.offset (filter_map declared_by_entry (map entry_view (take l.entry-index l.entries))) other)
