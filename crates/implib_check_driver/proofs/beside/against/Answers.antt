use Rattle.std.proofs.Common.{◌≡◌, ◌∙◌, false, sym, true}
use Rattle.std.proofs.lemmas.Bool.{true≢false}
use Rattle.implib_check_driver.specs.Against.{begins_archive, begins_dll}
use Rattle.implib_check_driver.proofs.beside.against.Goals as goal

pub returns-then-begins_archive-clause-held : goal.returns-then-begins_archive-clause-held
returns-then-begins_archive-clause-held g c = λ file known.
    let is : begins_archive c.args.first.now ≡ true = sym c.begins_archive.ensures ∙ c.if-begins_archive.true in (
      (λ yes. c.in_ok-answer.ensures.held file known),
      ((λ none image. absurd (true≢false (sym is ∙ none))), (λ none text. absurd (true≢false (sym is ∙ none)))),
    )

pub returns-then-begins_dll-clause-held : goal.returns-then-begins_dll-clause-held
returns-then-begins_dll-clause-held g c = λ file known.
    let unlike : begins_archive c.args.first.now ≡ false = sym c.begins_archive.ensures ∙ c.if-begins_archive.false in
    let is : begins_dll c.args.first.now ≡ true = sym c.begins_dll.ensures ∙ c.if-begins_dll.true in
    ((λ yes. absurd (true≢false (sym yes ∙ unlike))), ((λ none image. c.in_ok-saying.ensures), (λ none text. absurd (true≢false (sym is ∙ text)))))

pub returns-clause-held : goal.returns-clause-held
returns-clause-held g c = λ file known.
    let unlike : begins_archive c.args.first.now ≡ false = sym c.begins_archive.ensures ∙ c.if-begins_archive.false in
    let other : begins_dll c.args.first.now ≡ false = sym c.begins_dll.ensures ∙ c.if-begins_dll.false in (
      (λ yes. absurd (true≢false (sym yes ∙ unlike))),
      ((λ none image. absurd (true≢false (sym image ∙ other))), (λ none text. c.in_ok-answer-2.ensures.held file known)),
    )
