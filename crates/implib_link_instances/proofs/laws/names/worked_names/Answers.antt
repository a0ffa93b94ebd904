use Rattle.implib_link_instances.proofs.Worked.Aliases.{worked_alias}
use Rattle.implib_link_instances.proofs.Worked.OtherNames.{holds_of_some, worked_alternate_names, worked_other_names}
use Rattle.implib_link_instances.proofs.Worked.Closed.{worked_wanting}
use Rattle.implib_link_instances.proofs.laws.names.worked_names.Goals as goal

pub returns : goal.returns
returns c = record {
  worked_alias = worked_alias;
  worked_other_names = worked_other_names;
  worked_alternate_names = worked_alternate_names;
  holds_of_some = holds_of_some;
  worked_wanting = worked_wanting;
}
