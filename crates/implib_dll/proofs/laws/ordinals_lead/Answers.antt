use Rattle.implib_dll.proofs.Finding.{ordinals_lead}
use Rattle.implib_dll.proofs.laws.ordinals_lead.Goals as goal

pub returns : goal.returns
returns c = ordinals_lead
