use Rattle.implib.proofs.Text.Token.{Lexed-tokens_left}
use Rattle.implib.proofs.def.lexer.Lexer.new.Goals as goal

pub returns : goal.returns
returns c = Lexed-tokens_left c.args.text.now c.utf8.text
