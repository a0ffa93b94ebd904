use Rattle.implib.specs.Link.LinkedMembers.{bases_of}
use Rattle.implib.proofs.Link.LinkedInputs.{gnu_inputs_link, gnu_inputs_made, gnu_inputs_rise}
use Rattle.implib.proofs.laws.link.gnu_links_many.Goals as goal

pub returns : goal.returns
returns c = record {
  links = gnu_inputs_link c.args.machine (bases_of c.args.bases) _ (gnu_inputs_made c.args.machine _ c.requires.parts) c.requires.distinct c.requires.admissible;
  names_rise = gnu_inputs_rise c.args.machine _ c.requires.parts c.requires.rising c.requires.apart;
}
