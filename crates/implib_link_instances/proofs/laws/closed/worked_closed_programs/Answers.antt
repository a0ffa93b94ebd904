use Rattle.implib_link_instances.proofs.Worked.BothFlavors.{worked_both, worked_given}
use Rattle.implib_link_instances.proofs.Worked.Closed.{worked_by_linker}
use Rattle.implib_link_instances.proofs.laws.closed.worked_closed_programs.Goals as goal

pub returns : goal.returns
returns c = record {
  worked_both = worked_both;
  worked_given = worked_given;
  worked_by_linker = worked_by_linker;
}
