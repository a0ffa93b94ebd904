use Rattle.std.proofs.Common.{◌≡◌, ℕ, List, take, map}
use Rattle.std.specs.Option.{option_or}
use Rattle.implib_read.specs.ArchiveViews.{member_view}
use Rattle.implib_read.specs.Leads.{first_declarer}
use Rattle.implib_read.specs.LeadViews.{offset_of}
use Rattle.implib_read.proofs.leads.note_members.Given as goal

abbrev pub invariant-loop-i : goal.invariant-loop-i
invariant-loop-i l = (other : List ℕ) → offset_of l.declarers other
    ≡ option_or (offset_of l.fn.declarers other) (first_declarer (map member_view (take l.i l.members)) other)
