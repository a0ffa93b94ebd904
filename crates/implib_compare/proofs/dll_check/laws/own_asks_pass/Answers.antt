use Rattle.implib_compare.proofs.DllCheck.Passing.{own_asks_pass}
use Rattle.implib_compare.proofs.dll_check.laws.own_asks_pass.Goals as goal

pub returns : goal.returns
returns c = own_asks_pass
