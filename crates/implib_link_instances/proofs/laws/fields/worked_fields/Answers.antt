use Rattle.implib_link_instances.proofs.Worked.Programs.{passing_fields, worked_operands}
use Rattle.implib_link_instances.proofs.Worked.Registered.{worked_registering}
use Rattle.implib_link_instances.proofs.Worked.Stored.{worked_holdings}
use Rattle.implib_link_instances.proofs.laws.fields.worked_fields.Goals as goal

pub returns : goal.returns
returns c = record {
  passing_fields = passing_fields;
  worked_operands = worked_operands;
  worked_holdings = worked_holdings;
  worked_registering = worked_registering;
}
