use Rattle.implib_compare.proofs.DllCheck.Forwarders.{ends_decided}
use Rattle.implib_compare.proofs.dll_check.laws.known_dlls_decide.Goals as goal

pub returns : goal.returns
returns c = ends_decided
