use Rattle.std.proofs.Common.{◌≡◌, ◌^◌, ◌<◌, ◌∙◌, None, ap, arith, false, length, min, refl, subst, sym}
use Rattle.std.specs.List.{All}
use Rattle.std.proofs.lemmas.Result.{err_from_is_err_and}
use Rattle.implib_archive.specs.Archive.{end_from, entries_of, first_place, long_names, places_from, sorted_entries}
use Rattle.implib_archive.specs.Parts.{part_size}
use Rattle.implib_archive.specs.Pushed.{AreMeasured, shown}
use Rattle.implib_archive.specs.Refusal.{has_too_many, members_refusal, places_refusal}
use Rattle.implib_archive.specs.declared.kind.Kind.TheVariants.{Coff}
use Rattle.implib_archive.proofs.Whole.{each_short, first_near, near_size, same_refusal}
use Rattle.implib_arm64ec.specs.Archive.{ec_entries, ec_index, first_member_place, library_refusal}
use Rattle.implib_arm64ec.specs.Library.{for_arm64, library_view, listing_members, members_of}
use Rattle.implib_arm64ec.proofs.Accepted.{accepted_library, names_short, refused_many, refused_member, refused_places}
use Rattle.implib_arm64ec.proofs.Alike.{none_for_arm64}
use Rattle.implib_arm64ec.proofs.Making.{first_measured, same_members}
use Rattle.implib_arm64ec.proofs.archive.Archive.new.Goals as goal

pub returns-in-Some-clause-refused : goal.returns-in-Some-clause-refused
returns-in-Some-clause-refused c = refused_member _ _ (sym c.in-Some.ensures) refl

pub returns-then-has_too_many-clause-refused : goal.returns-then-has_too_many-clause-refused
returns-then-has_too_many-clause-refused c = grind (arith, refused_many, c.source_refusal.ensures, c.in_default.is, c.has_too_many.ensures, c.if-has_too_many.true)

pub place_members-requires : goal.place_members-requires
place_members-requires c =
    let l = library_view c.with-source.result in
    let none : members_refusal Coff (members_of l) ≡ None = ap (λ v. members_refusal Coff (members_of v)) c.with-source.ensures.library ∙ (sym c.source_refusal.ensures ∙ c.in_default.is) in
    let short = subst (All (λ m. length m.bytes < 2 ^ 32)) (sym (same_members c.with-source.result c.with-source.ensures.listed)) (each_short Coff (for_arm64 l) (none_for_arm64 l none)) in
    λ _. ((refl, tt), short)

pub returns-in_err-places-clause-refused : goal.returns-in_err-places-clause-refused
returns-in_err-places-clause-refused c =
    let s = c.with-source.result in
    let l = library_view s in
    let library = c.with-source.ensures.library in
    let members = same_members s c.with-source.ensures.listed in
    let none : members_refusal Coff (members_of l) ≡ None = ap (λ v. members_refusal Coff (members_of v)) library ∙ (sym c.source_refusal.ensures ∙ c.in_default.is) in
    let few : has_too_many Coff (members_of l) ≡ false = ap (λ v. has_too_many Coff (members_of v)) library ∙ (sym c.has_too_many.ensures ∙ c.if-has_too_many.false) in
    let marked : shown c.in_ok-ec_entries.ec_entries.items ≡ ec_entries l = c.in_ok-ec_entries.ensures ∙ ap ec_entries (sym library) in
    let first = c.saturating_add-first.result in
    let measured = first_measured l c.first_place-front.result c.index_size.result first
    (c.first_place-front.ensures ∙ ap (λ ms. min (first_place Coff ms) (2 ^ 32)) members)
    (c.index_size.ensures ∙ ap (λ e. min (part_size (length (ec_index e))) (2 ^ 32)) (ap shown c.as_slice-2.ensures.value ∙ marked))
    c.saturating_add-first.ensures in
    let asked = refused_places l none few ∙ (sym (same_refusal first (first_member_place l) (for_arm64 l) measured) ∙ ap (places_refusal first) (sym members)) in
    let whole = ap library_refusal (sym library) ∙ asked in
    let p = err_from_is_err_and c.from_residual-in_err-places.result c.from_residual-in_err-places.ensures.1 in
    rw (p.1, p.2, whole) c.in_err-places.ensures.refused

pub invariant_of-result : goal.invariant_of-result
invariant_of-result c =
    let s = c.with-source.result in
    let l = library_view s in
    let library = c.with-source.ensures.library in
    let members = same_members s c.with-source.ensures.listed in
    let none : members_refusal Coff (members_of l) ≡ None = ap (λ v. members_refusal Coff (members_of v)) library ∙ (sym c.source_refusal.ensures ∙ c.in_default.is) in
    let few : has_too_many Coff (members_of l) ≡ false = ap (λ v. has_too_many Coff (members_of v)) library ∙ (sym c.has_too_many.ensures ∙ c.if-has_too_many.false) in
    let marked : shown c.in_ok-ec_entries.ec_entries.items ≡ ec_entries l = c.in_ok-ec_entries.ensures ∙ ap ec_entries (sym library) in
    let first = c.saturating_add-first.result in
    let measured = first_measured l c.first_place-front.result c.index_size.result first
    (c.first_place-front.ensures ∙ ap (λ ms. min (first_place Coff ms) (2 ^ 32)) members)
    (c.index_size.ensures ∙ ap (λ e. min (part_size (length (ec_index e))) (2 ^ 32)) (ap shown c.as_slice-2.ensures.value ∙ marked))
    c.saturating_add-first.ensures in
    let asked = refused_places l none few ∙ (sym (same_refusal first (first_member_place l) (for_arm64 l) measured) ∙ ap (places_refusal first) (sym members)) in
    let accepted = asked ∙ c.in_ok-places.ensures.accepted in
    let near = first_near first (listing_members s) c.in_ok-places.ensures.accepted in
    let same : first ≡ first_member_place l = omega (arith, near, measured) in
    let names = subst (λ ms. AreMeasured Coff (long_names Coff ms) (shown c.in_ok-names.names.offsets.entries) c.in_ok-names.names.size) members c.in_ok-names.ensures in
    let small = near_size names (names_short l (accepted_library l accepted)) in
    record {
      accepted = accepted;
      for_linkers = c.with-source.ensures.listed;
      listed_first = c.in_ok-entries.ensures.listed ∙ ap (entries_of Coff) members;
      ordered = c.in_ok-entries.ensures.sorted refl ∙ ap (λ ms. sorted_entries (entries_of Coff ms)) members;
      ec = marked;
      named = names.same small;
      sized = sym (names.exact small);
      placed = c.in_ok-places.ensures.offsets ∙ (ap (λ p. places_from p (listing_members s)) same ∙ ap (places_from (first_member_place l)) members);
      ends = c.in_ok-places.ensures.end ∙ (ap (λ p. end_from p (listing_members s)) same ∙ ap (end_from (first_member_place l)) members);
    }

pub returns-clause-accepted : goal.returns-clause-accepted
returns-clause-accepted c =
    let s = c.with-source.result in
    let l = library_view s in
    let library = c.with-source.ensures.library in
    let members = same_members s c.with-source.ensures.listed in
    let none : members_refusal Coff (members_of l) ≡ None = ap (λ v. members_refusal Coff (members_of v)) library ∙ (sym c.source_refusal.ensures ∙ c.in_default.is) in
    let few : has_too_many Coff (members_of l) ≡ false = ap (λ v. has_too_many Coff (members_of v)) library ∙ (sym c.has_too_many.ensures ∙ c.if-has_too_many.false) in
    let marked : shown c.in_ok-ec_entries.ec_entries.items ≡ ec_entries l = c.in_ok-ec_entries.ensures ∙ ap ec_entries (sym library) in
    let first = c.saturating_add-first.result in
    let measured = first_measured l c.first_place-front.result c.index_size.result first
    (c.first_place-front.ensures ∙ ap (λ ms. min (first_place Coff ms) (2 ^ 32)) members)
    (c.index_size.ensures ∙ ap (λ e. min (part_size (length (ec_index e))) (2 ^ 32)) (ap shown c.as_slice-2.ensures.value ∙ marked))
    c.saturating_add-first.ensures in
    let asked = refused_places l none few ∙ (sym (same_refusal first (first_member_place l) (for_arm64 l) measured) ∙ ap (places_refusal first) (sym members)) in
    ap library_refusal (sym library) ∙ (asked ∙ c.in_ok-places.ensures.accepted)
