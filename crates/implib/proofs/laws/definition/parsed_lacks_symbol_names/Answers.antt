use Rattle.implib.proofs.Text.SymbolNames.{parsed_lacks}
use Rattle.implib.proofs.laws.definition.parsed_lacks_symbol_names.Goals as goal

pub returns : goal.returns
returns c = λ definition parsed. parsed_lacks c.args.text.now c.args.machine definition parsed
