use Rattle.std.proofs.Common.{arith}
use Rattle.std.proofs.lemmas.Bool.{true≢false}
use Rattle.implib_archive.proofs.Ordered.{distinct_neighbours, neighbours_differ}
use Rattle.implib_archive.proofs.entries.are_distinct.Goals as goal

pub loop-i-preserved : goal.loop-i-preserved
loop-i-preserved c = grind (arith, c.loop-i.invariant, c.eq.ensures, c.if-eq.false)

pub returns-then-eq : goal.returns-then-eq
returns-then-eq c = λ distinct. grind (arith, neighbours_differ, true≢false, c.requires, c.loop-i-test.true, c.if-eq.true, c.eq.ensures)

pub returns : goal.returns
returns c = distinct_neighbours c.args.sorted.now c.requires (λ k some within. c.loop-i.invariant k (omega (arith, within, c.loop-i-test.false)) some)
