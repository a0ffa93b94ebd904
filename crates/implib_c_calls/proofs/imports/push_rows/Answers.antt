use Rattle.std.proofs.Common.{[], length}
use Rattle.std.proofs.lemmas.List.{get_or_default}
use Rattle.std.proofs.lemmas.List.Elements.{All-more}
use Rattle.implib_c_calls.specs.declared.imports.Row.{Row as FoundRow}
use Rattle.implib_c_calls.specs.Encoding.{encoded_number}
use Rattle.implib_c_calls.specs.Imports.{Fits, encoded_row}
use Rattle.implib_c_calls.specs.ImportsAnswer.{row_view}
use Rattle.implib_c_calls.proofs.Pushes.{pushes_item}
use Rattle.implib_c_calls.proofs.imports.push_rows.Goals as goal

-- the row that a read past the end would have
abbrev no_row : FoundRow
no_row = record {
  kind = 0;
  offset = 0;
  dll = record { ref_ptr = (0, 0); now = [] };
  symbol = record { ref_ptr = (0, 0); now = [] };
  machine = 0;
  by_name = 0;
  asked = record { ref_ptr = (0, 0); now = [] };
  number = 0;
}

pub loop-row-preserved : goal.loop-row-preserved
loop-row-preserved c = (
  pushes_item encoded_row row_view c.args.rows.now c.loop-row.row-index (encoded_number (length c.args.rows.now)) c.loop-row.invariant.0
      _ c.loop-row-test.true (get_or_default c.args.rows.now c.loop-row.row-index no_row _ c.loop-row-test.true) c.in_ok-push_row.ensures.appended,
  All-more (λ r. Fits (row_view r)) c.args.rows.now c.loop-row.row-index no_row c.loop-row-test.true c.loop-row.invariant.1 c.push_row.ensures.fit,
)
