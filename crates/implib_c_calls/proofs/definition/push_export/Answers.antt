use Rattle.std.proofs.Common.{ap}
use Rattle.implib_archive.proofs.Appended.{on_as, on_then, pushes_as}
use Rattle.implib_c_calls.specs.Definition.{encoded_export}
use Rattle.implib_c_calls.specs.Encoding.{encoded_number, encoded_text}
use Rattle.implib_c_calls.proofs.definition.push_export.Goals as goal

pub returns-clause-appended : goal.returns-clause-appended
unfolding encoded_export
returns-clause-appended c =
    let end = c.push_number-2.new.bytes.items in
    on_then c.push_number-2.result end _ (pushes_as (ap encoded_text c.as_bytes.ensures.value) c.in_ok-push_text.ensures)
    (on_then c.push_number-2.result end _ c.in_ok-push_optional.ensures
    (on_then c.push_number-2.result end _ (pushes_as (ap encoded_text c.as_bytes-2.ensures.value) c.in_ok-push_text-2.ensures)
    (on_then c.push_number-2.result end _ (pushes_as (ap encoded_number c.from.ensures) c.in_ok-push_number.ensures)
    (on_as c.push_number-2.result _ end (ap encoded_number c.flags_of.ensures) c.push_number-2.ensures))))
