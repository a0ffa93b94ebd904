use Rattle.std.proofs.Common.{inl, inr, subst}
use Rattle.implib_check_driver.specs.Answer.{IsHalt, answer_view}
use Rattle.implib_check_driver.proofs.program.run.Goals as goal

pub returns-in_ok-status-in-Ok : goal.returns-in_ok-status-in-Ok
returns-in_ok-status-in-Ok g c = record { answer = answer_view c.in-Ok.found; answers = inl c.in-Ok.ensures.answered; written = c.in_ok-status-in-Ok.ensures }

pub returns-in_ok-status-in-Err-Ends : goal.returns-in_ok-status-in-Err-Ends
returns-in_ok-status-in-Err-Ends g c = record { answer = answer_view c.in-Err-Ends.found; answers = inr (subst (IsHalt (g.S.Shelf.may_fail c.args.shelf.now)) c.in-Err-Ends.field-0-is c.in-Err-Ends.ensures.halted); written = c.in_ok-status-in-Err-Ends.ensures }
