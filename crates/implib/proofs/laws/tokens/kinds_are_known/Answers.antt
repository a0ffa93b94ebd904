use Rattle.implib.proofs.Text.Token.{Lexed-known}
use Rattle.implib.proofs.laws.tokens.kinds_are_known.Goals as goal

pub returns : goal.returns
returns c = Lexed-known c.args.text.now
