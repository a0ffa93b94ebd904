use Rattle.std.proofs.Common.{◌≡◌, map, take}
use Rattle.implib_compare.specs.Working.{with_offset}
use Rattle.implib_read.specs.IndexViews.{index_entry_view}
use Rattle.implib_compare.proofs.working.with_offsets.Given as goal

abbrev pub invariant-loop-entry : goal.invariant-loop-entry
invariant-loop-entry l =
    map index_entry_view l.entries.items ≡ map (with_offset l.index.offsets.now) (map index_entry_view (take l.entry-index l.index.entries.items))
