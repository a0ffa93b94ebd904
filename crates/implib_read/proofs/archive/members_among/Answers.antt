use Rattle.std.proofs.Common.{◌≡◌, ◌∙◌, ◌∷◌, [], None, Some, append-nil, map, sym, ap, rules}
use Rattle.std.proofs.lemmas.List.{map-append}
use Rattle.std.specs.Option.{option_map}
use Rattle.implib_read.specs.Archives.{member_of}
use Rattle.implib_read.specs.ArchiveViews.{member_view, part_view}
use Rattle.implib_read.proofs.Gathering.{kept-more}
use Rattle.implib_read.proofs.archive.members_among.Goals as goal

pub loop-part-preserved-in_default : goal.loop-part-preserved-in_default
loop-part-preserved-in_default c =
    let none : option_map member_view c.member_of.result ≡ None = search rules in
    sym (append-nil _) ∙ kept-more part_view (member_of c.args.names.now) c.args.parts.now c.loop-part.part-index _ _ None (search rules) (sym c.member_of.ensures ∙ none) c.loop-part.invariant

pub loop-part-preserved : goal.loop-part-preserved
loop-part-preserved c =
    let got : option_map member_view c.member_of.result ≡ Some (member_view c.in-Some.member) = search rules in
    ap (map member_view) c.in_ok-push.ensures.items
    ∙ (map-append member_view c.loop-part.members.items (c.in-Some.member ∷ [])
    ∙ kept-more part_view (member_of c.args.names.now) c.args.parts.now c.loop-part.part-index _ _ (Some (member_view c.in-Some.member)) (search rules) (sym c.member_of.ensures ∙ got) c.loop-part.invariant)
