use Rattle.implib_link.proofs.Archives.Ways.{bytes_lead_to_lld_calls}
use Rattle.implib_link.proofs.laws.archives.bytes_lead_to_lld_calls.Goals as goal

pub returns : goal.returns
returns c = bytes_lead_to_lld_calls
