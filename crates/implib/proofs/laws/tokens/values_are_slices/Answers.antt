use Rattle.implib.proofs.Text.Slices.{Lexed-slices}
use Rattle.implib.proofs.laws.tokens.values_are_slices.Goals as goal

pub returns : goal.returns
returns c = λ tokens lexed. Lexed-slices c.args.text.now tokens c.utf8.text lexed
