use Rattle.std.proofs.Common.{ap}
use Rattle.implib_archive.proofs.Appended.{on_as, on_then, pushes_as}
use Rattle.implib_c_calls.specs.Encoding.{encoded_number}
use Rattle.implib_c_calls.specs.Imports.{encoded_row}
use Rattle.implib_c_calls.proofs.imports.push_row.Goals as goal

pub returns-clause-appended : goal.returns-clause-appended
unfolding encoded_row
returns-clause-appended c =
    let result = c.push_number-5.result in
    let end = c.push_number-5.new.bytes.items in
    on_then result end _ c.in_ok-push_number.ensures
    (on_then result end _ c.in_ok-push_number-2.ensures
    (on_then result end _ c.in_ok-push_text.ensures
    (on_then result end _ c.in_ok-push_text-2.ensures
    (on_then result end _ (pushes_as (ap encoded_number c.from.ensures) c.in_ok-push_number-3.ensures)
    (on_then result end _ c.in_ok-push_number-4.ensures
    (on_then result end _ c.in_ok-push_text-3.ensures
    (on_as result _ end (ap encoded_number c.from-2.ensures) c.push_number-5.ensures)))))))
