use Rattle.std.proofs.Common.{◌≡◌, ◌++◌, map, take}
use Rattle.implib_read.specs.IndexViews.{index_entry_view}
use Rattle.implib_check_driver.specs.Json.{MisleadingEntry}
use Rattle.implib_check_driver.specs.Listing.{fault_lines}
use Rattle.implib_check_driver.proofs.works.tell_entries.Given as goal

abbrev pub invariant-loop-entry : goal.invariant-loop-entry
invariant-loop-entry l =
    l.out.items ≡ l.fn.out.items ++ fault_lines l.form.is_json l.path (map (MisleadingEntry l.number) (map index_entry_view (take l.entry-index l.entries)))
