use Rattle.implib.proofs.Text.Token.{LexedOnce-of_text}
use Rattle.implib.proofs.laws.tokens.one_token_list.Goals as goal

pub returns : goal.returns
returns c = LexedOnce-of_text c.args.text.now c.utf8.text
