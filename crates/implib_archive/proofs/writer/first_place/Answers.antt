use Rattle.std.proofs.Common.{ℕ, ◌^◌, ◌∙◌, ap, length, min, sym}
use Rattle.std.proofs.lemmas.List.{length-map}
use Rattle.implib_archive.specs.Archive.{entries_of, first_place, long_names, names_bytes, strings_of}
use Rattle.implib_archive.specs.Pushed.{shown}
use Rattle.implib_archive.proofs.Whole.{capped_min, capped_more, capped_names, front_capped}
use Rattle.implib_archive.proofs.writer.first_place.Goals as goal

pub returns : goal.returns
unfolding first_place
returns g c =
    let kind = c.args.kind in
    let views = g.S.Members.members c.args.source.now in
    let entries = c.args.entries.now in
    let capped = λ (n : ℕ). min n (2 ^ 32) in
    let members = capped_min c.count.result ∙ ap capped c.count.ensures in
    let count = capped_min (length entries) ∙ ap capped (sym (length-map entries (λ e. (e.0.now, e.1))) ∙ ap length c.requires.listed) in
    let strings = capped_more c.strings_size.result (length (strings_of (shown entries))) c.strings_size.ensures ∙ ap (λ t. capped (length (strings_of t))) c.requires.listed in
    ap capped c.front_size.ensures
    ∙ front_capped kind (capped c.count.result) (capped (length entries)) (capped c.strings_size.result) (capped c.args.names.now.size)
    (length views) (length (entries_of kind views)) (length (strings_of (entries_of kind views))) (length (names_bytes kind (long_names kind views)))
    members count strings (capped_names c.requires.measured)
