use Rattle.implib_link_instances.proofs.Worked.Writing.{worked_writings}
use Rattle.implib_link_instances.proofs.laws.moves.worked_moves.Goals as goal

pub returns : goal.returns
returns c = record {
  worked_writings = worked_writings;
}
