use Rattle.std.proofs.Common.{ap, append-nil, ◌∙◌}
use Rattle.implib_archive.specs.Parts.{field, header_bytes}
use Rattle.implib_archive.specs.Pushed.{mode_of, owner_of}
use Rattle.implib_archive.proofs.Appended.{behind_four, on_slice, on_then, pushes_as, pushes_then}
use Rattle.implib_archive.proofs.bytes.push_header.Goals as goal

pub returns : goal.returns
unfolding header_bytes
returns c =
    let t = c.args.label.now.texts in
    let middle = pushes_as c.middle.ensures (record { whole = c.in_ok-extend_from_slice.ensures.items }) in
    let name = pushes_as (behind_four _ (field 12 (owner_of t)) (field 6 (owner_of t)) (field 6 (owner_of t)) (field 8 (mode_of t))) (pushes_then c.in_ok-push_field.ensures middle) in
    let size = pushes_as (ap (field 10) (append-nil _ ∙ (c.as_bytes.ensures.value ∙ c.format.ensures.text))) c.in_ok-push_field-2.ensures in
    on_then _ _ _ (pushes_then name size) (on_slice _ _ _ _ c.extend_from_slice-2.ensures.items)
