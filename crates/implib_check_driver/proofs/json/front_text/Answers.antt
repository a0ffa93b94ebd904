use Rattle.implib_check_driver.proofs.JsonTexts.{front_of_text}
use Rattle.implib_check_driver.proofs.json.front_text.Goals as goal

pub returns-in-Ok : goal.returns-in-Ok
returns-in-Ok c = rw (front_of_text _ c.in-Ok.ensures.cases.1) c.in-Ok.ensures.cases.0
