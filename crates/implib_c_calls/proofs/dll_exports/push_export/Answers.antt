use Rattle.std.proofs.Common.{ap, map}
use Rattle.implib_archive.proofs.Appended.{on_as, on_then, pushes_as}
use Rattle.implib_c_calls.specs.DllExports.{encoded_export}
use Rattle.implib_c_calls.specs.Encoding.{encoded_list, encoded_number, encoded_text}
use Rattle.implib_c_calls.proofs.dll_exports.push_export.Goals as goal

pub returns-clause-appended : goal.returns-clause-appended
unfolding encoded_export
returns-clause-appended c =
    let result = c.push_names.result in
    let end = c.push_names.new.bytes.items in
    on_then result end _ (pushes_as (ap encoded_number c.from.ensures) c.in_ok-push_number.ensures)
    (on_then result end _ (pushes_as (ap encoded_number c.target_number.ensures) c.in_ok-push_number-2.ensures)
    (on_then result end _ (pushes_as (ap encoded_number c.target_address.ensures) c.in_ok-push_number-3.ensures)
    (on_then result end _ (pushes_as (ap encoded_text c.target_forwarder.ensures) c.in_ok-push_text.ensures)
    (on_as result _ end (ap (λ items. encoded_list encoded_text (map (λ name. name.now) items)) c.deref.ensures.value) c.push_names.ensures))))
