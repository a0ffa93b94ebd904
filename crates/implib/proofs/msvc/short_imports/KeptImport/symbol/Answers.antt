use Rattle.implib.proofs.Members.KeptImports.{boundary}
use Rattle.implib.proofs.msvc.short_imports.KeptImport.symbol.Goals as goal

pub range_from-requires : goal.range_from-requires
range_from-requires c = λ _. rw c.deref.ensures (boundary c.requires.0 c.args.self.now c.requires.1)
