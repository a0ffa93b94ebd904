use Rattle.implib_compare.proofs.DllCheck.Following.{data_ends}
use Rattle.implib_compare.proofs.dll_check.laws.data_ends_are_data.Goals as goal

pub returns : goal.returns
returns c = data_ends
