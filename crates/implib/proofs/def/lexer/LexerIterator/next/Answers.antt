use Rattle.std.proofs.Common.{◌≡◌, length, sym, ◌∙◌, ap, rules, arith}
use Rattle.std.specs.Bool.{Decides}
use denote.Enum.Bare.{sameb, same_true}
use Rattle.implib.specs.contracts.def.lexer.TokenKind.{the_type}
use Rattle.implib.specs.declared.def.lexer.TokenKind.TheVariants.{Eof}
use Rattle.implib.specs.Views.Scanner.{tokens_left}
use Rattle.implib.proofs.Text.TokensLeft.{tokens_left_next, tokens_left_done, PassesTrivia-shorter, TakesToken-shorter}
use Rattle.implib.proofs.def.lexer.LexerIterator.next.Goals as goal

pub returns-then-self-clause-steps : goal.returns-then-self-clause-steps
returns-then-self-clause-steps c =
    let none = sym c.self.view_is ∙ tokens_left_done c.self.inside.text.now c.self.inside.rest.now c.self.inside.is_done c.if-self.true in
    (none, none)

pub overflow_sub-at : goal.overflow_sub-at
overflow_sub-at c = omega (arith, PassesTrivia-shorter c.self.inside.rest.now c.skip_trivia-start.result.now c.skip_trivia-start.ensures.skips.passes, c.self.invariant)

pub invariant_of-self : goal.invariant_of-self
invariant_of-self c =
    let trivia = PassesTrivia-shorter _ _ c.skip_trivia-start.ensures.skips.passes in
    let token = TakesToken-shorter _ _ _ _ c.first_token.ensures in
    omega (arith, trivia, token, c.self.invariant)

pub returns : goal.returns
returns c =
    let kind = c.first_token.result.0.kind in
    let is_done : Decides c.eq-self-inside.result (kind ≡ Eof) =
    (λ e. same_true the_type (search rules) _ _ (sym c.eq-self-inside.ensures ∙ e), λ e. c.eq-self-inside.ensures ∙ ap (λ k. sameb the_type k Eof) e) in
    let given =
    sym c.self.view_is
    ∙ ap (tokens_left c.self.inside.text.now c.self.inside.rest.now) c.if-self.false
    ∙ tokens_left_next c.self.inside.text.now c.self.inside.rest.now c.skip_trivia-start.result.now c.first_token.result.1.now _ c.eq-self-inside.result c.self.invariant c.skip_trivia-start.ensures.utf8 c.skip_trivia-start.utf8 c.skip_trivia-start.ensures.skips.passes c.first_token.ensures is_done in
    record { steps = given; goes = record { on = λ _. (tt, tt, omega (arith, ap length given)); keeps = tt; rests = λ _. tt } }
