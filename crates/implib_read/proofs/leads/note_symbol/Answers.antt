use Rattle.std.proofs.Common.{◌≡◌, ◌∙◌, None, rules}
use Rattle.std.proofs.lemmas.Map.Text.{hash_map_updates_str}
use Rattle.implib_read.specs.LeadViews.{offset_of}
use Rattle.implib_read.proofs.FirstPlaces.{placed}
use Rattle.implib_read.proofs.leads.note_symbol.Goals as goal

pub returns-in_ok-insert : goal.returns-in_ok-insert
returns-in_ok-insert c = λ other.
    let none : offset_of c.args.declarers.now c.args.symbol.now ≡ None = search rules in
    hash_map_updates_str c.args.symbol.now c.args.declarers.now c.insert.new.self _ c.in_ok-insert.ensures.updates other
    ∙ placed (offset_of c.args.declarers.now) c.args.symbol.now other c.args.offset none
