use Rattle.implib.proofs.Worked.Rules.{take_nothing_else}
use Rattle.implib.proofs.laws.rules.tables_take_nothing_else.Goals as goal

pub returns : goal.returns
returns c = take_nothing_else
