use Rattle.std.proofs.Common.{◌≡◌, ◌+◌, arith, drop, get_or, nat_lt, length, rules, of_calls, subst, sym}
use Rattle.std.specs.List.{prefix_len}
use Rattle.std.specs.List.Sorted.{IsNonDecreasingBy}
use Rattle.std.proofs.lemmas.List.{get_or_default, get_or_past}
use Rattle.std.proofs.lemmas.Fn.{always_returns_same}
use Rattle.std.proofs.lemmas.List.Sorted.{IsPartitionedBy-ltb}
use Rattle.implib_read.specs.MemberNames.{goes_on}
use Rattle.implib_read.proofs.LineEnds.{at_point, ends_rise, first_from, line_at}
use Rattle.implib_read.proofs.lines.line_len.Goals as goal
use Rattle.implib_read.proofs.lines.line_len.Goals.{then-next-ends, else-next-ends}

end_is : (c : goal.After-row_known-1) → c.if-next-ends.end ≡ c.args.offset + prefix_len goes_on (drop c.args.offset c.args.text.now)
end_is c =
    let ends = c.args.ends.now in
    let text = c.args.text.now in
    let offset = c.args.offset in
    let rise = subst (λ es. IsNonDecreasingBy (λ x. x) es) (sym c.requires.ends) (ends_rise 0 text) in
    let key = always_returns_same _ _ _ (λ a r f k. search (rules, of_calls)) in
    let point = c.partition_point-next.ensures.partitioned (λ y. nat_lt y offset) key (IsPartitionedBy-ltb (λ x. x) ends offset rise) in
    let at : first_from offset ends (length text) ≡ get_or ends c.partition_point-next.result (length text) = at_point ends offset c.partition_point-next.result (length text) c.partition_point-next.ensures.bound point in
    grind (arith, first_from, line_at, then-next-ends, get_or_default, else-next-ends, get_or_past, c.requires.ends, c.requires.within, c.if-next-ends.branch)

pub overflow_sub-result : goal.overflow_sub-result
overflow_sub-result c = let end = end_is c in omega (arith, end)

pub returns : goal.returns
returns c = let end = end_is c in omega (arith, end)
