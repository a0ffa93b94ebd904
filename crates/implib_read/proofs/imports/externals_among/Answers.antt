use Rattle.std.proofs.Common.{◌≡◌, ◌∙◌, ◌∷◌, [], ℕ, List, Bor, None, Some, append-nil, map, sym, ap, rules}
use Rattle.std.proofs.lemmas.List.{map-append}
use Rattle.std.specs.Option.{option_map}
use Rattle.implib.specs.Members.GnuReader.{external_in}
use Rattle.implib_read.specs.ObjectViews.{entry_view, object_view}
use Rattle.implib_read.proofs.Gathering.{kept-more}
use Rattle.implib_read.proofs.imports.externals_among.Goals as goal

-- the bytes of a slice
bytes_of : Bor (List ℕ) → List ℕ
bytes_of t = t.now

pub loop-entry-preserved-in_default : goal.loop-entry-preserved-in_default
unfolding bytes_of
loop-entry-preserved-in_default c =
    let none : option_map bytes_of c.external_in.result ≡ None = search rules in
    sym (append-nil _) ∙ kept-more entry_view (external_in (object_view c.args.object.now) c.args.section.now) c.args.entries.now c.loop-entry.entry-index _ _ None (search rules) (sym c.external_in.ensures ∙ none) c.loop-entry.invariant

pub loop-entry-preserved : goal.loop-entry-preserved
unfolding bytes_of
loop-entry-preserved c =
    let got : option_map bytes_of c.external_in.result ≡ Some c.in-Some.name.now = search rules in
    ap (map bytes_of) c.in_ok-push.ensures.items
    ∙ (map-append bytes_of c.loop-entry.names.items (c.in-Some.name ∷ [])
    ∙ kept-more entry_view (external_in (object_view c.args.object.now) c.args.section.now) c.args.entries.now c.loop-entry.entry-index _ _ (Some c.in-Some.name.now) (search rules) (sym c.external_in.ensures ∙ got) c.loop-entry.invariant)
