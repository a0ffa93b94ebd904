use Rattle.implib_link_instances.proofs.Worked.Search.{worked_found, worked_named_apart, worked_sweeps}
use Rattle.implib_link_instances.proofs.Worked.Plainly.{worked_plainly}
use Rattle.implib_link_instances.proofs.laws.searches.worked_searches.Goals as goal

pub returns : goal.returns
returns c = record {
  worked_sweeps = worked_sweeps;
  worked_plainly = worked_plainly;
  worked_found = worked_found;
  worked_named_apart = worked_named_apart;
}
