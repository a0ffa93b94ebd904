use Rattle.implib_compare.proofs.DllCheck.Following.{kinds_decided}
use Rattle.implib_compare.proofs.dll_check.laws.known_dlls_decide_kinds.Goals as goal

pub returns : goal.returns
returns c = kinds_decided
