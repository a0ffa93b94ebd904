use Rattle.std.proofs.Common.{◌≡◌, ℕ, List, take, map}
use Rattle.std.specs.Option.{option_or}
use Rattle.implib_read.specs.Leads.{offset_if_listed}
use Rattle.implib_read.specs.LeadViews.{offset_of}
use Rattle.implib_read.proofs.leads.note_names.Given as goal

abbrev pub invariant-loop-name : goal.invariant-loop-name
invariant-loop-name l = (other : List ℕ) → offset_of l.declarers other
    ≡ option_or (offset_of l.fn.declarers other) (offset_if_listed l.offset (map (λ name. name.items) (take l.name-index l.names)) other)
