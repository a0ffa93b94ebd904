use Rattle.std.proofs.Common.{[], ◌<◌, ◌≤◌, ◌∙◌, ap, arith, is_some, length, refl, sym}
use Rattle.implib_archive.specs.Refusal.{symbol_refusal, symbols_refusal}
use Rattle.implib_archive.specs.Sources.{member_at}
use Rattle.implib_archive.proofs.Chosen.{first_here, first_later, first_none}
use Rattle.implib_archive.proofs.refusal.symbols_refusal.Goals as goal

pub returns-then-is_some : goal.returns-then-is_some
unfolding symbols_refusal
returns-then-is_some g c =
    let symbols = (member_at (g.S.Members.members c.args.source.now) c.args.index).symbols in
    let within : c.loop-number.number < length symbols = omega (arith, c.loop-number-test.true, c.symbol_count-number-end.ensures) in
    let answer = c.symbol_refusal-refusal.ensures ∙ ap symbol_refusal (c.as_bytes.ensures.value ∙ c.symbol.ensures) in
    let here = sym (ap is_some answer) ∙ (sym c.is_some.ensures ∙ c.if-is_some.true) in
    answer ∙ first_here symbol_refusal symbols_refusal refl (λ y ys. refl) symbols c.loop-number.number [] within c.loop-number.invariant here

pub loop-number-preserved : goal.loop-number-preserved
unfolding symbols_refusal
loop-number-preserved g c =
    let symbols = (member_at (g.S.Members.members c.args.source.now) c.args.index).symbols in
    let within : c.loop-number.number < length symbols = omega (arith, c.loop-number-test.true, c.symbol_count-number-end.ensures) in
    let answer = c.symbol_refusal-refusal.ensures ∙ ap symbol_refusal (c.as_bytes.ensures.value ∙ c.symbol.ensures) in
    let here = sym (ap is_some answer) ∙ (sym c.is_some.ensures ∙ c.if-is_some.false) in
    first_later symbol_refusal symbols_refusal refl (λ y ys. refl) symbols c.loop-number.number [] within c.loop-number.invariant here

pub returns : goal.returns
unfolding symbols_refusal
returns g c =
    let symbols = (member_at (g.S.Members.members c.args.source.now) c.args.index).symbols in
    let past : length symbols ≤ c.loop-number.number = omega (arith, c.loop-number-test.false, c.symbol_count-number-end.ensures) in
    first_none symbol_refusal symbols_refusal refl (λ y ys. refl) symbols c.loop-number.number past c.loop-number.invariant
