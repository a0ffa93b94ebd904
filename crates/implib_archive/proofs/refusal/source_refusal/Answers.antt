use Rattle.std.proofs.Common.{◌<◌, ◌≤◌, ◌∙◌, ap, arith, is_some, length, refl, sym}
use Rattle.implib_archive.specs.Refusal.{member_refusal, members_refusal}
use Rattle.implib_archive.specs.Sources.{no_member}
use Rattle.implib_archive.proofs.Chosen.{first_here, first_later, first_none}
use Rattle.implib_archive.proofs.refusal.source_refusal.Goals as goal

pub returns-then-is_some : goal.returns-then-is_some
unfolding members_refusal
returns-then-is_some g c =
    let members = g.S.Members.members c.args.source.now in
    let within : c.loop-index.index < length members = omega (arith, c.loop-index-test.true, c.count-index-end.ensures) in
    let answer = c.member_refusal-refusal.ensures in
    let here = sym (ap is_some answer) ∙ (sym c.is_some.ensures ∙ c.if-is_some.true) in
    answer ∙ first_here (member_refusal c.args.kind) (members_refusal c.args.kind) refl (λ y ys. refl) members c.loop-index.index no_member within c.loop-index.invariant here

pub loop-index-preserved : goal.loop-index-preserved
unfolding members_refusal
loop-index-preserved g c =
    let members = g.S.Members.members c.args.source.now in
    let within : c.loop-index.index < length members = omega (arith, c.loop-index-test.true, c.count-index-end.ensures) in
    let here = sym (ap is_some c.member_refusal-refusal.ensures) ∙ (sym c.is_some.ensures ∙ c.if-is_some.false) in
    first_later (member_refusal c.args.kind) (members_refusal c.args.kind) refl (λ y ys. refl) members c.loop-index.index no_member within c.loop-index.invariant here

pub returns : goal.returns
unfolding members_refusal
returns g c =
    let members = g.S.Members.members c.args.source.now in
    let past : length members ≤ c.loop-index.index = omega (arith, c.loop-index-test.false, c.count-index-end.ensures) in
    first_none (member_refusal c.args.kind) (members_refusal c.args.kind) refl (λ y ys. refl) members c.loop-index.index past c.loop-index.invariant
