use Rattle.implib_link.proofs.Archives.Ways.{files_lead_to_lld}
use Rattle.implib_link.proofs.laws.archives.files_lead_to_lld_calls.Goals as goal

pub returns : goal.returns
returns c = files_lead_to_lld
