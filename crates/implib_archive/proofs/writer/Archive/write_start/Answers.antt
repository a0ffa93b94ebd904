use Rattle.std.proofs.Common.{◌∙◌, ap, arith, subst, sym}
use Rattle.implib_archive.specs.Archive.{places_of}
use Rattle.implib_archive.specs.Pushed.{FrontFits, shown}
use Rattle.implib_archive.proofs.Puts.{writes_as}
use Rattle.implib_archive.proofs.Whole.{front_fits, front_made, names_below, ordered_made}
use Rattle.implib_archive.proofs.writer.Archive.write_start.Goals as goal

pub write_front-requires-clause-fits : goal.write_front-requires-clause-fits
write_front-requires-clause-fits g c =
    let a = c.self.inside in
    let ms = g.S.Members.members a.source in
    let made = c.self.invariant in
    let places = c.as_slice-places.ensures.value ∙ made.placed in
    let entries = ap shown c.as_slice-entries.ensures.value ∙ made.listed in
    subst (λ p. FrontFits a.kind p (shown c.as_slice-entries.result.now)) (sym places)
    (subst (λ e. FrontFits a.kind (places_of a.kind ms) e) (sym entries) (front_fits a.kind ms made.accepted))

pub write_front-requires-clause-ordered : goal.write_front-requires-clause-ordered
write_front-requires-clause-ordered g c = λ is. grind (arith, ordered_made, c.as_slice-sorted.ensures.value, c.self.invariant, c.as_slice-entries.ensures.value)

pub write_front-requires-clause-short : goal.write_front-requires-clause-short
write_front-requires-clause-short g c = grind (arith, names_below, c.self.invariant, c.self.invariant.sized, c.self.invariant.accepted)

pub returns : goal.returns
returns g c = grind (arith, writes_as, front_made c.self.invariant, c.as_slice-places.ensures.value, c.as_slice-entries.ensures.value, c.self.invariant, c.write_front.ensures)
