use Rattle.std.proofs.Common.{length, subst}
use Rattle.std.proofs.lemmas.List.Elements.{All-more}
use Rattle.implib_c_calls.specs.DllExports.{ExportFits, encoded_export}
use Rattle.implib_c_calls.specs.DllExportsAnswer.{export_row_found}
use Rattle.implib_c_calls.specs.Encoding.{encoded_number}
use Rattle.implib_c_calls.proofs.Pushes.{pushes_item}
use Rattle.implib_c_calls.proofs.dll_exports.push_exports.Goals as goal

pub loop-row-preserved : goal.loop-row-preserved
loop-row-preserved c =
    let rows = c.args.rows.now in
    let index = c.loop-row.row-index in
    let item = c.row-item.result in (
      pushes_item encoded_export export_row_found rows index (encoded_number (length rows)) c.loop-row.invariant.0
          item c.loop-row-test.true c.row-item.is c.in_ok-push_export.ensures.appended,
      All-more (λ r. ExportFits (export_row_found r)) rows index item c.loop-row-test.true c.loop-row.invariant.1
          (subst (λ r. ExportFits (export_row_found r)) c.row-item.is c.in_ok-push_export.ensures.fit),
    )
