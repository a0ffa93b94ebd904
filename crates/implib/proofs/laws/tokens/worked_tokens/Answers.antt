use Rattle.implib.proofs.Worked.Tokens.{worked}
use Rattle.implib.proofs.laws.tokens.worked_tokens.Goals as goal

pub returns : goal.returns
returns c = worked
