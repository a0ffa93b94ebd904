use Rattle.std.proofs.Common.{◌≡◌, map, take}
use Rattle.implib_compare.specs.Working.{first_entries}
use Rattle.implib_read.specs.IndexViews.{index_entry_view}
use Rattle.implib_compare.proofs.working.first_entries.Given as goal

-- the set has the symbols of the entries so far
abbrev pub invariant-loop-entry : goal.invariant-loop-entry
invariant-loop-entry l = record {
  symbols : map (λ k. k.now) l.symbols.keys ≡ map (λ e. e.symbol) (map index_entry_view l.firsts.items);
  firsts : map index_entry_view l.firsts.items ≡ first_entries (map index_entry_view (take l.entry-index l.entries));
}
