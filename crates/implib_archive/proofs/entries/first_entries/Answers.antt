use Rattle.std.proofs.Common.{arith, sym, subst}
use Rattle.std.specs.List.Sorted.{IsSorted}
use Rattle.implib_archive.specs.Pushed.{entry_cmp}
use Rattle.implib_archive.proofs.Distinct.{distinct_all_first}
use Rattle.implib_archive.proofs.Ordered.{all_firsts_sorted, distinct_moved_back, firsts_sorted}
use Rattle.implib_archive.proofs.entries.first_entries.Goals as goal

pub are_distinct-requires : goal.are_distinct-requires
are_distinct-requires c = subst (IsSorted entry_cmp) (sym c.as_slice-2.ensures.value) c.in_ok-sorted.ensures.order

pub returns-then-are_distinct-clause-listed : goal.returns-then-are_distinct-clause-listed
returns-then-are_distinct-clause-listed c = grind (arith, distinct_all_first, distinct_moved_back, c.as_slice-2.ensures.value, c.if-are_distinct.ensures, c.as_slice.ensures.value, c.in_ok-sorted.ensures.same)

pub returns-then-are_distinct-clause-sorted : goal.returns-then-are_distinct-clause-sorted
returns-then-are_distinct-clause-sorted c = grind (arith, all_firsts_sorted, c.as_slice-2.ensures.value, c.if-are_distinct.ensures, c.as_slice.ensures.value, c.in_ok-sorted.ensures.same, c.in_ok-sorted.ensures.order)

pub returns-clause-sorted : goal.returns-clause-sorted
returns-clause-sorted c = grind (arith, firsts_sorted, c.in_ok-listed.ensures, c.as_slice-3.ensures.value, c.as_slice-4.ensures.value, c.in_ok-sorted-2.ensures.same, c.in_ok-sorted-2.ensures.order)
