use Rattle.implib_tool_driver.proofs.Dividing.{one_parting}
use Rattle.implib_tool_driver.proofs.laws.one_parting.Goals as goal

pub returns : goal.returns
returns c = one_parting
