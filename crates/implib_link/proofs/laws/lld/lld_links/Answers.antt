use Rattle.implib_link.proofs.Flavors.LldImports.{lld_links}
use Rattle.implib_link.proofs.laws.lld.lld_links.Goals as goal

pub returns : goal.returns
returns c = record { links = lld_links }
