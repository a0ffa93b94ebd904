use Rattle.std.proofs.Common.{◌≡◌, ◌∙◌, ap, arith, refl, sym}
use Rattle.std.proofs.lemmas.Result.{err_from_is_err_and}
use Rattle.implib_archive.specs.Archive.{end_from, first_place, places_from}
use Rattle.implib_archive.proofs.Whole.{each_short, first_near, names_below, near_size, refused_many, refused_member, refused_places, same_refusal}
use Rattle.implib_archive.proofs.writer.Archive.new.Goals as goal

pub returns-in-Some-clause-refused : goal.returns-in-Some-clause-refused
returns-in-Some-clause-refused g c = refused_member c.args.kind (g.S.Members.members c.args.source) _ (sym c.in-Some.ensures) refl

pub returns-then-has_too_many-clause-refused : goal.returns-then-has_too_many-clause-refused
returns-then-has_too_many-clause-refused g c = grind (arith, refused_many, c.source_refusal.ensures, c.in_default.is, c.has_too_many.ensures, c.if-has_too_many.true)

-- for each lifetime that the source's bound may stand for
pub place_members-requires : goal.place_members-requires
place_members-requires g c = grind (arith, each_short, c.source_refusal.ensures, c.in_default.is)

pub returns-in_err-places-clause-refused : goal.returns-in_err-places-clause-refused
returns-in_err-places-clause-refused g c =
    let kind = c.args.kind in
    let ms = g.S.Members.members c.args.source in
    let asked = refused_places kind ms (sym c.source_refusal.ensures ∙ c.in_default.is) (sym c.has_too_many.ensures ∙ c.if-has_too_many.false)
    ∙ sym (same_refusal c.first_place-first.result (first_place kind ms) ms c.first_place-first.ensures) in
    let p = err_from_is_err_and c.from_residual-in_err-places.result c.from_residual-in_err-places.ensures.1 in
    rw (p.1, p.2, asked) c.in_err-places.ensures.refused

pub invariant_of-result : goal.invariant_of-result
invariant_of-result g c =
    let kind = c.args.kind in
    let ms = g.S.Members.members c.args.source in
    let first = c.first_place-first.result in
    let accepted = refused_places kind ms (sym c.source_refusal.ensures ∙ c.in_default.is) (sym c.has_too_many.ensures ∙ c.if-has_too_many.false)
    ∙ sym (same_refusal first (first_place kind ms) ms c.first_place-first.ensures) ∙ c.in_ok-places.ensures.accepted in
    let near = first_near first ms c.in_ok-places.ensures.accepted in
    let same : first ≡ first_place kind ms = omega (arith, near, c.first_place-first.ensures) in
    let small = near_size c.in_ok-names.ensures (names_below kind ms accepted) in
    record {
      accepted = accepted;
      listed = c.in_ok-entries.ensures.listed;
      ordered = c.in_ok-entries.ensures.sorted;
      named = c.in_ok-names.ensures.same small;
      sized = sym (c.in_ok-names.ensures.exact small);
      placed = c.in_ok-places.ensures.offsets ∙ ap (λ p. places_from p ms) same;
      ends = c.in_ok-places.ensures.end ∙ ap (λ p. end_from p ms) same;
    }

pub returns-clause-accepted : goal.returns-clause-accepted
returns-clause-accepted g c = grind (arith, refused_places, same_refusal, c.source_refusal.ensures, c.in_default.is, c.has_too_many.ensures, c.if-has_too_many.false, c.first_place-first.ensures, c.in_ok-places.ensures.accepted)
