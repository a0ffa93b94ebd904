use Rattle.std.proofs.Common.{rules, ◌≡◌, ◌+◌, ◌-◌, ◌/◌, sym, arith}
use Rattle.implib_dll.specs.Lookup.{middle}
use Rattle.implib_dll.proofs.Searching.{searches-above, searches-below, searches-found, searches-none}
use Rattle.implib_dll.proofs.lookup.searched.Goals as goal

pub loop-low-preserved-in-Less : goal.loop-low-preserved-in-Less
loop-low-preserved-in-Less c =
    let l = c.loop-low in
    let some = c.loop-low-test.true in
    let is : l.low + (l.high - 1 - l.low) / 2 ≡ middle l.low l.high = omega (arith, some) in
    (searches-above _ c.args.wanted.now l.low l.high _ _ some is (sym c.in-Less.ensures) l.invariant.0, l.invariant.1)

pub returns-in-Equal-clause-found : goal.returns-in-Equal-clause-found
returns-in-Equal-clause-found c =
    let l = c.loop-low in
    let some = c.loop-low-test.true in
    let is : l.low + (l.high - 1 - l.low) / 2 ≡ middle l.low l.high = omega (arith, some) in
    searches-found _ c.args.wanted.now l.low l.high _ _ some is (sym c.in-Equal.ensures) l.invariant.0

pub loop-low-preserved : goal.loop-low-preserved
loop-low-preserved c =
    let l = c.loop-low in
    let some = c.loop-low-test.true in
    let is : l.low + (l.high - 1 - l.low) / 2 ≡ middle l.low l.high = omega (arith, some) in
    (searches-below _ c.args.wanted.now l.low l.high _ _ some is (sym c.in-Greater.ensures) l.invariant.0, omega (arith, some, l.invariant.1))

pub returns-clause-found : goal.returns-clause-found
returns-clause-found c = search (rules, searches-none, c.loop-low-test.false, c.loop-low.invariant.0)
