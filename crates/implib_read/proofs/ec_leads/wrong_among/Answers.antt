use Rattle.std.proofs.Common.{◌≡◌, ◌∙◌, ◌∷◌, [], None, Some, append-nil, map, sym, ap, rules}
use Rattle.std.proofs.lemmas.List.{map-append}
use Rattle.std.specs.Option.{option_map}
use Rattle.implib_read.specs.IndexViews.{index_entry_view}
use Rattle.implib_read.specs.Leads.{ec_declarer, wrong_entry}
use Rattle.implib_read.specs.LeadViews.{offset_of}
use Rattle.implib_read.proofs.Gathering.{kept-more}
use Rattle.implib_read.proofs.ec_leads.wrong_among.Goals as goal

pub loop-entry-preserved-in_default : goal.loop-entry-preserved-in_default
loop-entry-preserved-in_default c =
    let none : option_map index_entry_view c.wrong_entry.result ≡ None = search rules in
    sym (append-nil _) ∙ kept-more index_entry_view (wrong_entry (ec_declarer (offset_of c.args.tables.now) (offset_of c.args.others.now))) c.args.entries.now c.loop-entry.entry-index _ _ None (search rules) (sym c.wrong_entry.ensures ∙ none) c.loop-entry.invariant

pub loop-entry-preserved : goal.loop-entry-preserved
loop-entry-preserved c =
    let got : option_map index_entry_view c.wrong_entry.result ≡ Some (index_entry_view c.in-Some.found) = search rules in
    ap (map index_entry_view) c.in_ok-push.ensures.items
    ∙ (map-append index_entry_view c.loop-entry.wrong.items (c.in-Some.found ∷ [])
    ∙ kept-more index_entry_view (wrong_entry (ec_declarer (offset_of c.args.tables.now) (offset_of c.args.others.now))) c.args.entries.now c.loop-entry.entry-index _ _ (Some (index_entry_view c.in-Some.found)) (search rules) (sym c.wrong_entry.ensures ∙ got) c.loop-entry.invariant)
