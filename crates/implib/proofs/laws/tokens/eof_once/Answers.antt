use Rattle.implib.proofs.Text.Token.{EndsInEof-from_Lexed}
use Rattle.implib.proofs.laws.tokens.eof_once.Goals as goal

pub returns : goal.returns
returns c = EndsInEof-from_Lexed c.args.text.now
