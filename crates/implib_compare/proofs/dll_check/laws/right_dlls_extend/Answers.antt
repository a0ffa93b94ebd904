use Rattle.implib_compare.proofs.DllCheck.Folders.{right_extends}
use Rattle.implib_compare.proofs.dll_check.laws.right_dlls_extend.Goals as goal

pub returns : goal.returns
returns c = right_extends
