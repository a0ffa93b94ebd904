use Rattle.std.proofs.Common.{◌∷◌, sym, ◌∙◌, ap, arith}
use Rattle.implib.proofs.Text.Trivia.{PassesSpace-trim_start, PassesSpace-comment, SkipsTrivia-from_space}
use Rattle.implib.proofs.Text.Lexemes.{begins_with, boundary_after_first}
use Rattle.implib.proofs.def.lexer.skip_trivia.Goals as goal

pub loop-rest-init : goal.loop-rest-init
loop-rest-init c = record {
  is_text = c.trim_start-rest.utf8;
  passed = PassesSpace-trim_start _ _ c.trim_start-rest.ensures.value;
}

pub range_from-requires : goal.range_from-requires
range_from-requires c = λ _. boundary_after_first 59 c.loop-rest.rest.now (omega arith) c.loop-rest.invariant.is_text (begins_with 59 _ (sym c.begins_with.ensures ∙ c.loop-rest-test.true))

pub loop-rest-preserved : goal.loop-rest-preserved
loop-rest-preserved c =
    let is_comment = begins_with 59 c.loop-rest.rest.now (sym c.begins_with.ensures ∙ c.loop-rest-test.true) ∙ ap (λ l. 59 ∷ l) (sym c.range_from.ensures.value) in
    record {
      is_text = c.trim_start-rest-in-loop-rest.utf8;
      passed = PassesSpace-comment _ _ _ _ _ c.loop-rest.invariant.passed is_comment c.after_line.ensures.passes c.trim_start-rest-in-loop-rest.ensures.value;
    }

pub returns-clause-skips : goal.returns-clause-skips
returns-clause-skips c = SkipsTrivia-from_space _ _ c.loop-rest.invariant.passed (sym c.begins_with.ensures ∙ c.loop-rest-test.false)

pub returns-clause-utf8 : goal.returns-clause-utf8
returns-clause-utf8 c = c.utf8.text
