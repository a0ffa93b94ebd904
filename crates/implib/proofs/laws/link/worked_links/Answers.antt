use Rattle.implib.proofs.Worked.Links.{worked_links}
use Rattle.implib.proofs.laws.link.worked_links.Goals as goal

pub returns : goal.returns
returns c = worked_links
