use Rattle.std.proofs.Common.{rules}
use Rattle.implib_driver.specs.Request.{request_view}
use Rattle.implib_driver.proofs.Delays.{finishes_alone, finishes_delaying}
use Rattle.implib_driver.proofs.definition_program.answer_text.Goals as goal

pub returns-in-None : goal.returns-in-None
returns-in-None g c = finishes_alone _ _ _ (request_view c.args.request.now) _ _ _ _ _ (search rules) c.answer_definition.ensures

pub returns-in-Some : goal.returns-in-Some
returns-in-Some g c = finishes_delaying _ _ c.in-Some.path.now _ (request_view c.args.request.now) _ _ _ _ _ (search rules) c.answer_delaying.ensures
