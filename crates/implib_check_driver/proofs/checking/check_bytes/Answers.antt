use Rattle.std.proofs.Common.{◌≡◌, ◌∙◌, false, sym, true}
use Rattle.std.proofs.lemmas.Bool.{true≢false}
use Rattle.implib_check_driver.specs.Against.{begins_dll}
use Rattle.implib_check_driver.specs.Answers.{asks_for_dll}
use Rattle.implib_check_driver.specs.Calls.{check_view}
use Rattle.implib_check_driver.proofs.checking.check_bytes.Goals as goal

pub returns-then-begins_dll-clause-held : goal.returns-then-begins_dll-clause-held
returns-then-begins_dll-clause-held g c = λ file known.
    let is : begins_dll c.args.definition.now ≡ true = sym c.begins_dll.ensures ∙ c.if-begins_dll.true in
    ((λ yes. c.in_ok-answer.ensures.held file known), (λ none. absurd (true≢false (sym is ∙ none))))

pub returns-then-asks_for_dll-clause-held : goal.returns-then-asks_for_dll-clause-held
returns-then-asks_for_dll-clause-held g c = λ file known.
    let unlike : begins_dll c.args.definition.now ≡ false = sym c.begins_dll.ensures ∙ c.if-begins_dll.false in
    let asked : asks_for_dll (check_view c.args.check.now) ≡ true = sym c.asks_for_dll.ensures ∙ c.if-asks_for_dll.true in (
      (λ yes. absurd (true≢false (sym yes ∙ unlike))),
      (λ none. ((λ all. c.in_ok-saying.ensures), (λ no. absurd (true≢false (sym asked ∙ no))))),
    )
