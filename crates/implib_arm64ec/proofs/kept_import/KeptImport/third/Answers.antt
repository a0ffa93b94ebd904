use Rattle.std.specs.Prelude.{string_bytes}
use Rattle.implib_arm64ec.proofs.KeptImports.{cut_at_other}
use Rattle.implib_arm64ec.proofs.kept_import.KeptImport.third.Goals as goal

pub range_from-requires : goal.range_from-requires
range_from-requires c = λ _. let k = c.args.self.now in let kept = c.requires.1 in rw (c.deref.ensures) (cut_at_other (string_bytes k.texts) k.address_end k.symbol_end kept.plain kept.symbol kept.other kept.texts)
