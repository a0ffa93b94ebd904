use Rattle.std.proofs.Common.{◌≡◌, ◌^◌, ◌<◌, ◌∙◌, ap, arith, length, subst, sym}
use Rattle.std.specs.List.{All}
use Rattle.std.proofs.lemmas.List.{length-map}
use Rattle.implib_archive.specs.Archive.{strings_of}
use Rattle.implib_archive.specs.Pushed.{shown}
use Rattle.implib_arm64ec.specs.Library.{library_view}
use Rattle.implib_arm64ec.proofs.Accepted.{accepted_library, ec_numbers, ec_short}
use Rattle.implib_arm64ec.proofs.archive.Archive.write_ec_index.Goals as goal

pub write_index-requires-clause-numbers : goal.write_index-requires-clause-numbers
write_index-requires-clause-numbers g c =
    let l = library_view c.self.inside.source in
    let made = c.self.invariant in
    subst (All (λ e. e.1 < 2 ^ 16)) (sym (ap shown c.as_slice.ensures.value ∙ made.ec)) (ec_numbers l (accepted_library l made.accepted))

pub write_index-requires-clause-short : goal.write_index-requires-clause-short
write_index-requires-clause-short g c =
    let l = library_view c.self.inside.source in
    let made = c.self.invariant in
    let entries = c.as_slice.result.now in
    let same = ap shown c.as_slice.ensures.value ∙ made.ec in
    let count : length (shown entries) ≡ length entries = length-map entries (λ e. (e.0.now, e.1)) in
    omega (arith, ec_short l (accepted_library l made.accepted), ap length same, count, ap (λ t. length (strings_of t)) same)
