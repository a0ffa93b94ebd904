use Rattle.std.proofs.Common.{arith, ◌≡◌, ◌∙◌, ◌++◌, All, ap, map, rules, subst}
use Rattle.std.proofs.lemmas.List.Elements.{All-map}
use Rattle.std.proofs.lemmas.Simd.{map-map}
use Rattle.implib_dll.specs.Rows.{rows_of}
use Rattle.implib_dll.specs.Views.{exports_view}
use Rattle.implib_archive.proofs.Appended.{pushes_as, pushes_then}
use Rattle.implib_c_calls.specs.DllExports.{ExportFits, dll_rows, encoded_dll, encoded_export, export_row}
use Rattle.implib_c_calls.specs.DllExportsAnswer.{export_row_found}
use Rattle.implib_c_calls.specs.Encoding.{encoded_list, encoded_number}
use Rattle.implib_c_calls.proofs.dll_exports.encoding_of.Goals as goal

pub returns : goal.returns
unfolding encoded_dll
returns c =
    let found = c.in_ok-rows.rows.items in
    let exports = exports_view c.args.exports.now in
    let are : map export_row_found c.deref.result.now ≡ map export_row (rows_of exports) = grind (arith, map, map-map, c.deref.ensures.value, c.in_ok-rows.ensures) in
    let all = pushes_then (pushes_as (ap encoded_number c.from.ensures) c.in_ok-push_number.ensures)
    (pushes_then c.in_ok-push_text.ensures
    (pushes_as (ap (encoded_list encoded_export) are) c.in_ok-push_exports.ensures.appended)) in
    record {
      is = all.whole ∙ ap (λ t. t ++ encoded_dll (dll_rows exports)) c.new-bytes.ensures.items;
      fit = record {
        machine = search rules;
        rows = subst (All ExportFits) are (All-map ExportFits export_row_found c.deref.result.now c.in_ok-push_exports.ensures.fit);
      };
    }
