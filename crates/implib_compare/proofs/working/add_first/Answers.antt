use Rattle.std.proofs.Common.{◌∙◌, ◌∷◌, [], ap, map, sym}
use Rattle.std.proofs.lemmas.List.{map-append}
use Rattle.implib_read.specs.IndexViews.{index_entry_view}
use Rattle.implib_compare.proofs.FirstEntries.{any_symbol, was_listed, was_new, with_listed, with_new}
use Rattle.implib_compare.proofs.working.add_first.Goals as goal

pub returns-then-not-branch-clause-entries : goal.returns-then-not-branch-clause-entries
returns-then-not-branch-clause-entries c =
    let entries = map index_entry_view c.args.entries.now.items in
    let e = index_entry_view c.args.entry.now in
    with_listed entries e
    (sym (any_symbol e.symbol c.args.symbols.now.keys entries c.requires) ∙ was_listed c.in_ok-insert.field-0 _ c.in_ok-insert.ensures.added c.if-not-branch.true)

pub returns-clause-entries : goal.returns-clause-entries
returns-clause-entries c =
    let entries = map index_entry_view c.args.entries.now.items in
    let e = index_entry_view c.args.entry.now in
    ap (map index_entry_view) c.in_ok-push.ensures.items
    ∙ map-append index_entry_view c.args.entries.now.items (c.args.entry.now ∷ [])
    ∙ with_new entries e
    (sym (any_symbol e.symbol c.args.symbols.now.keys entries c.requires) ∙ was_new c.in_ok-insert.field-0 _ c.in_ok-insert.ensures.added c.if-not-branch.false)
