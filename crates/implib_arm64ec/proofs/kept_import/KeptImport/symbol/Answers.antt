use Rattle.std.specs.Prelude.{string_bytes}
use Rattle.implib_arm64ec.proofs.KeptImports.{cut_at_other, cut_at_symbol}
use Rattle.implib_arm64ec.proofs.kept_import.KeptImport.symbol.Goals as goal

pub range-requires-clause-start_boundary : goal.range-requires-clause-start_boundary
range-requires-clause-start_boundary c = λ _. let k = c.args.self.now in let kept = c.requires.1 in rw (c.deref.ensures, c.auxiliary_end.ensures) (cut_at_symbol (string_bytes k.texts) k.address_end k.symbol_end kept.plain kept.symbol kept.other kept.texts)

pub range-requires-clause-end_boundary : goal.range-requires-clause-end_boundary
range-requires-clause-end_boundary c = let k = c.args.self.now in let kept = c.requires.1 in rw (c.deref.ensures) (cut_at_other (string_bytes k.texts) k.address_end k.symbol_end kept.plain kept.symbol kept.other kept.texts)
