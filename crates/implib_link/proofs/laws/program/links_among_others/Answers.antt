use Rattle.implib_link.proofs.Flavors.Program.{program_links}
use Rattle.implib_link.proofs.laws.program.links_among_others.Goals as goal

pub returns : goal.returns
returns c = record { links = program_links }
