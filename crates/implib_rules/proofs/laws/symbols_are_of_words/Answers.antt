use Rattle.implib_rules.proofs.Symbols.{one_word}
use Rattle.implib_rules.proofs.laws.symbols_are_of_words.Goals as goal

pub returns : goal.returns
returns c = one_word
