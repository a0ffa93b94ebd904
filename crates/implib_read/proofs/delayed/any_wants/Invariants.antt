use Rattle.std.proofs.Common.{◌≡◌, drop, map}
use Rattle.std.specs.List.{list_any}
use Rattle.implib_read.specs.Delayed.{wants_helper}
use Rattle.implib_read.specs.ObjectViews.{entry_view}
use Rattle.implib_read.proofs.delayed.any_wants.Given as goal

abbrev pub invariant-loop-entry : goal.invariant-loop-entry
invariant-loop-entry l =
    list_any wants_helper (map entry_view (drop l.entry-index l.entries)) ≡ list_any wants_helper (map entry_view l.entries)
