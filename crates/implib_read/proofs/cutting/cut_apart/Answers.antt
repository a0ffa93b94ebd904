use Rattle.std.proofs.Common.{◌≡◌, ◌∙◌, ◌∷◌, [], None, Some, append-nil, map, sym, ap, rules}
use Rattle.std.proofs.lemmas.List.{map-append}
use Rattle.std.specs.Option.{option_map}
use Rattle.implib_read.specs.ArchiveViews.{member_view}
use Rattle.implib_read.specs.Cutting.{cut_by_member}
use Rattle.implib_read.specs.CuttingViews.{cut_apart_view}
use Rattle.implib_read.proofs.Gathering.{kept-more}
use Rattle.implib_read.proofs.cutting.cut_apart.Goals as goal

pub loop-member-preserved-in_default : goal.loop-member-preserved-in_default
loop-member-preserved-in_default c =
    let none : option_map cut_apart_view c.cut_by_member.result ≡ None = search rules in
    sym (append-nil _) ∙ kept-more member_view cut_by_member c.args.members.now c.loop-member.member-index _ _ None (search rules) (sym c.cut_by_member.ensures ∙ none) c.loop-member.invariant

pub loop-member-preserved : goal.loop-member-preserved
loop-member-preserved c =
    let got : option_map cut_apart_view c.cut_by_member.result ≡ Some (cut_apart_view c.in-Some.cut) = search rules in
    ap (map cut_apart_view) c.in_ok-push.ensures.items
    ∙ (map-append cut_apart_view c.loop-member.found.items (c.in-Some.cut ∷ [])
    ∙ kept-more member_view cut_by_member c.args.members.now c.loop-member.member-index _ _ (Some (cut_apart_view c.in-Some.cut)) (search rules) (sym c.cut_by_member.ensures ∙ got) c.loop-member.invariant)
