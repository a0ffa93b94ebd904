use Rattle.std.proofs.Common.{bytes_eq, refl}
use Rattle.std.specs.String.{string_bytes}
use Rattle.implib_rules.proofs.Targets.{among-text, insert_key-text}
use Rattle.implib_rules.proofs.aliases.insert_symbol.Goals as goal

pub returns-clause-new : goal.returns-clause-new
returns-clause-new c =
    cc (c.in_ok-insert.ensures.added, among-text string_bytes c.args.symbol (λ s t. bytes_eq (string_bytes s) (string_bytes t)) (λ x. refl) c.args.symbols.now.keys)

pub returns-clause-symbols : goal.returns-clause-symbols
returns-clause-symbols c =
    cc (c.in_ok-insert.ensures.keys, insert_key-text string_bytes c.args.symbol (λ s t. bytes_eq (string_bytes s) (string_bytes t)) (λ x. refl) c.args.symbols.now.keys)
