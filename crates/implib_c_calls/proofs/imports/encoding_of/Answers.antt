use Rattle.std.proofs.Common.{rules, map}
use Rattle.implib_c_calls.proofs.RowsPushed.{appended, rows_alone}
use Rattle.implib_c_calls.proofs.imports.encoding_of.Goals as goal

pub returns : goal.returns
returns c = search (rules, rows_alone, map, appended, c.new-bytes.ensures.items, c.deref.ensures.value, c.in_ok-rows.ensures, c.in_ok-push_rows.ensures.appended, c.in_ok-push_rows.ensures.fit)
