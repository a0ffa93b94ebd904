use Rattle.implib.proofs.Worked.Positions.{worked_lines, worked_positions}
use Rattle.implib.proofs.laws.grammar.worked_positions.Goals as goal

pub returns : goal.returns
returns c = record { lines = worked_lines; refusals = worked_positions }
