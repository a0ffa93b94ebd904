use Rattle.implib_link_instances.proofs.Worked.Expansion.{worked_expansion}
use Rattle.implib_link_instances.proofs.Worked.Flavors.{worked_flavors}
use Rattle.implib_link_instances.proofs.Worked.Loads.{worked_loads}
use Rattle.implib_link_instances.proofs.Worked.Programs.{worked_programs}
use Rattle.implib_link_instances.proofs.Worked.Aliases.{worked_sources}
use Rattle.implib_link_instances.proofs.laws.programs.worked_programs.Goals as goal

pub returns : goal.returns
returns c = record {
  worked_programs = worked_programs;
  worked_expansion = worked_expansion;
  worked_flavors = worked_flavors;
  worked_loads = worked_loads;
  worked_sources = worked_sources;
}
