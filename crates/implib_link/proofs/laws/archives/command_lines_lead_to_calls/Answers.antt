use Rattle.implib_link.proofs.Archives.Ways.{lines_lead_to_both}
use Rattle.implib_link.proofs.laws.archives.command_lines_lead_to_calls.Goals as goal

pub returns : goal.returns
returns c = lines_lead_to_both
