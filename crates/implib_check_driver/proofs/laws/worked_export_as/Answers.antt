use Rattle.implib_check_driver.proofs.WorkedTexts.{worked_export_as}
use Rattle.implib_check_driver.proofs.laws.worked_export_as.Goals as goal

pub returns : goal.returns
returns c = worked_export_as
