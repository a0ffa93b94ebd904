use Rattle.std.proofs.Common.{◌≡◌, ◌+◌, ◌<◌, ◌≤◌, ◌∙◌, ◌||◌, ap, arith, drop, false, length, sym, true}
use Rattle.std.proofs.lemmas.List.{drop_all, drop_more}
use Rattle.std.specs.List.{list_any}
use Rattle.implib_archive.specs.Sources.{member_at, no_member}
use Rattle.implib_driver.specs.Stubs.{has_stub}
use Rattle.implib_driver.proofs.stubs.have_stub.Goals as goal

pub returns-then-has_stub : goal.returns-then-has_stub
returns-then-has_stub g c =
    let members = g.S.Members.members c.args.source.now in
    let within : c.loop-index.index < length members = omega (arith, c.loop-index-test.true, c.count-index-end.ensures) in
    let here : has_stub (member_at members c.loop-index.index) ≡ true = sym c.has_stub.ensures ∙ c.if-has_stub.true in
    sym (c.loop-index.invariant ∙ (ap (list_any has_stub) (drop_more members c.loop-index.index no_member within)
    ∙ ap (λ b. b || list_any has_stub (drop (c.loop-index.index + 1) members)) here))

pub loop-index-preserved : goal.loop-index-preserved
loop-index-preserved g c =
    let members = g.S.Members.members c.args.source.now in
    let within : c.loop-index.index < length members = omega (arith, c.loop-index-test.true, c.count-index-end.ensures) in
    let here : has_stub (member_at members c.loop-index.index) ≡ false = sym c.has_stub.ensures ∙ c.if-has_stub.false in
    c.loop-index.invariant ∙ (ap (list_any has_stub) (drop_more members c.loop-index.index no_member within)
    ∙ ap (λ b. b || list_any has_stub (drop (c.loop-index.index + 1) members)) here)

pub returns : goal.returns
returns g c =
    let members = g.S.Members.members c.args.source.now in
    let past : length members ≤ c.loop-index.index = omega (arith, c.loop-index-test.false, c.count-index-end.ensures) in
    sym (c.loop-index.invariant ∙ ap (list_any has_stub) (drop_all c.loop-index.index members past))
