use Rattle.implib.proofs.Text.Token.{DividesOnce-of_text}
use Rattle.implib.proofs.laws.tokens.one_division.Goals as goal

pub returns : goal.returns
returns c = DividesOnce-of_text c.args.text.now c.utf8.text
