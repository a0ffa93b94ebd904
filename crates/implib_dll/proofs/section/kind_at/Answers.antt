use Rattle.std.proofs.Common.{arith, ◌∙◌, sym}
use Rattle.implib_dll.proofs.Located.{kind_at-here, kind_at-later, kind_at-none}
use Rattle.implib_dll.proofs.section.kind_at.Goals as goal

pub returns-then-has_address : goal.returns-then-has_address
returns-then-has_address c = grind (arith, kind_at-here, c.kind_in.ensures, c.loop-section-test.true, c.has_address.ensures, c.if-has_address.true, c.loop-section.invariant)

pub loop-section-preserved : goal.loop-section-preserved
loop-section-preserved c = grind (arith, kind_at-later, c.loop-section-test.true, c.has_address.ensures, c.if-has_address.false, c.loop-section.invariant)

pub returns : goal.returns
returns c = sym (kind_at-none c.args.sections.now c.args.rva c.loop-section.section-index c.loop-section-test.false) ∙ c.loop-section.invariant
