use Rattle.implib_link_instances.proofs.Worked.Parts.{worked_older, worked_parts, worked_reach}
use Rattle.implib_link_instances.proofs.laws.libraries.worked_libraries.Goals as goal

pub returns : goal.returns
returns c = record {
  worked_parts = worked_parts;
  worked_older = worked_older;
  worked_reach = worked_reach;
}
