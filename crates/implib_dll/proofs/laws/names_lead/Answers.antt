use Rattle.implib_dll.proofs.Finding.{names_lead}
use Rattle.implib_dll.proofs.laws.names_lead.Goals as goal

pub returns : goal.returns
returns c = names_lead
