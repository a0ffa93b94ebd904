use Rattle.std.proofs.Common.{arith, ◌∙◌, sym}
use Rattle.implib_dll.proofs.Located.{located-here, located-later, located-none}
use Rattle.implib_dll.proofs.section.located.Goals as goal

pub returns-then-has_data-clause-found : goal.returns-then-has_data-clause-found
returns-then-has_data-clause-found c = grind (arith, located-here, c.data_from.ensures.found, c.loop-section-test.true, c.has_data.ensures, c.if-has_data.true, c.loop-section.invariant)

pub loop-section-preserved : goal.loop-section-preserved
loop-section-preserved c = grind (arith, located-later, c.loop-section-test.true, c.has_data.ensures, c.if-has_data.false, c.loop-section.invariant)

pub returns-clause-found : goal.returns-clause-found
returns-clause-found c = sym (located-none c.args.sections.now c.args.rva c.loop-section.section-index c.loop-section-test.false) ∙ c.loop-section.invariant
