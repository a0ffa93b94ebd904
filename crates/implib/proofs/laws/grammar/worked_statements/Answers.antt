use Rattle.implib.proofs.Worked.Statements.{worked_settings, worked_exports, worked_refusals, worked_fronts}
use Rattle.implib.proofs.laws.grammar.worked_statements.Goals as goal

pub returns : goal.returns
returns c = record { settings = worked_settings; exports = worked_exports; refusals = worked_refusals; fronts = worked_fronts }
