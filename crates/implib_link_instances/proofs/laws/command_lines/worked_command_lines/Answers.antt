use Rattle.implib_link_instances.proofs.Worked.CommandLines.{worked_command_lines}
use Rattle.implib_link_instances.proofs.Worked.FlavorLines.{worked_flavor_lines}
use Rattle.implib_link_instances.proofs.laws.command_lines.worked_command_lines.Goals as goal

pub returns : goal.returns
returns c = record {
  worked_command_lines = worked_command_lines;
  worked_flavor_lines = worked_flavor_lines;
}
